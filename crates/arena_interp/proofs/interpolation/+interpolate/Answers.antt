-- The interpolation is that of the premises by the last rule, and the trees get less high.
use Rattle.std.proofs.Common.{rules, arith, ◌≡◌, ◌+◌, ◌*◌, ◌<◌, sym, ap, subst, ◌∙◌}
use Rattle.lk_rules.specs.declared.rule.Rule.{Rule}
use Rattle.proof_trees.specs.Trees.{Tree, none, more, rule_of, IsValid}
use Rattle.proof_trees.specs.Shapes.{height}
use Rattle.interp_laws.specs.Interpolation.{part_of, first_above, second_above, above, over_one, joined, itp}
use Rattle.interp_laws.specs.Parts.{HasParts}
use Rattle.arena_cells.specs.Standing.{sequent_at, tree_at}
use Rattle.arena_cells.specs.declared.key.Parts.{Parts}
use Rattle.arena_cells.specs.Meaning.{rule_at, HasPremises}
use Rattle.arena_cells.proofs.Staying.{rule_stays, rule_parts_there, sequent_stays, sequent_there, tree_stays, tree_there}
use Rattle.arena_interp.specs.Partitions.{IsPartitionAt, interpolation_at}
use Rattle.arena_interp.proofs.LastInferences.{larger, made_same}
use Rattle.arena_interp.proofs.Staying.{interpolation_is, interpolation_there, interpolated_there, has_later, partition_there, itp_stays, has_same, known_there}
use Rattle.arena_interp.proofs.Roots.{axiom_step, weak_step, weak_descends, two_made, first_descends, second_descends, first_lower, second_lower}
use Rattle.arena_interp.proofs.UpperParts.{parts_there, above_later}
use Rattle.arena_interp.proofs.Descents.{anyway, leaf_made, one_is_there, premise_has, premise_lower, premise_made}
use Rattle.arena_interp.proofs.interpolation.+interpolate.Goals as goal

pub interpolate_weakened-interpolate_at-requires : goal.interpolate_weakened-interpolate_at-requires
interpolate_weakened-interpolate_at-requires t c =
    let a = c.args.arena.now in
    let q = c.args.partition in
    let tree = tree_at a q.proof in
    let lower = first_lower tree (tree_at a c.in-One.proof) none c.in-One.ensures.trees in
    let less : 4 * height (tree_at a c.in-One.proof) + 3 < 4 * height tree + 1 = omega arith in
    let upper : IsPartitionAt a (record { proof = c.in-One.proof; first = q.first; second = q.second }) = record {
      proof = c.in-One.ensures.there;
      first = c.requires.partition.first;
      second = c.requires.partition.second;
      parts = weak_descends tree (sequent_at a q.first) (sequent_at a q.second) (tree_at a c.in-One.proof) c.requires.rule c.in-One.ensures.trees c.premises.ensures.weakening c.requires.partition.parts;
    } in
    search (rules, less, upper, c.requires.table, c.decreases)

pub interpolate_weakened-returns-clause-made : goal.interpolate_weakened-returns-clause-made
interpolate_weakened-returns-clause-made t c =
    let a = c.args.arena.now in
    let q = c.args.partition in
    made_same c.interpolate_at.result c.interpolate_at.new.arena _ _
    (weak_step (tree_at a q.proof) (sequent_at a q.first) (sequent_at a q.second) (tree_at a c.in-One.proof) c.requires.rule c.in-One.ensures.trees c.steps.ensures.weakening) c.interpolate_at.ensures.made

pub interpolate_main-returns-in-Zero-clause-made : goal.interpolate_main-returns-in-Zero-clause-made
interpolate_main-returns-in-Zero-clause-made t c =
    let a = c.args.arena.now in
    let q = c.args.partition in
    made_same c.leaf.result c.leaf.new.arena _ _
    (leaf_made (tree_at a q.proof) (sequent_at a q.first) (sequent_at a q.second) (rule_at a c.rule-rule.result) c.part_of-side.result c.steps.ensures.leaf c.in-Zero.ensures.trees c.requires.main c.rule-rule.ensures.rule c.part_of-side.ensures) c.leaf.ensures.made

pub interpolate_main-returns-in-Zero-clause-table : goal.interpolate_main-returns-in-Zero-clause-table
interpolate_main-returns-in-Zero-clause-table t c = anyway c.leaf.result _ (known_there c.args.arena.now c.leaf.new.arena c.leaf.ensures.grown c.args.table.now c.requires.table)

pub interpolate_root-returns-in-Ax-clause-made : goal.interpolate_root-returns-in-Ax-clause-made
interpolate_root-returns-in-Ax-clause-made t c =
    let a = c.args.arena.now in
    let q = c.args.partition in
    made_same c.axiom.result c.axiom.new.arena _ _
    (axiom_step (tree_at a q.proof) (sequent_at a q.first) (sequent_at a q.second) c.steps.ensures.axiom _ (c.rule-rule.ensures.rule ∙ ap (rule_at a) c.in-Ax.is)) c.axiom.ensures.made

pub interpolate_root-returns-in-Ax-clause-table : goal.interpolate_root-returns-in-Ax-clause-table
interpolate_root-returns-in-Ax-clause-table t c = anyway c.axiom.result _ (known_there c.args.arena.now c.axiom.new.arena c.axiom.ensures.grown c.args.table.now c.requires.table)

pub interpolate_one-moved_to-requires-clause-proof : goal.interpolate_one-moved_to-requires-clause-proof
interpolate_one-moved_to-requires-clause-proof t c = tree_there c.args.arena.now c.union_sequents.new.self c.union_sequents.ensures.grown c.args.partition.proof c.requires.partition.proof

pub interpolate_one-moved_to-requires-clause-valid : goal.interpolate_one-moved_to-requires-clause-valid
interpolate_one-moved_to-requires-clause-valid t c =
    subst (λ (u : Tree). IsValid u) (sym (tree_stays c.args.arena.now c.union_sequents.new.self c.union_sequents.ensures.grown c.args.partition.proof c.requires.partition.proof)) c.requires.partition.parts.valid

pub interpolate_one-upper_partition-requires-clause-one : goal.interpolate_one-upper_partition-requires-clause-one
interpolate_one-upper_partition-requires-clause-one t c =
    sequent_there c.args.arena.now c.moved_to.new.arena (larger _ _ _ c.union_sequents.ensures.grown c.moved_to.ensures.grown) c.args.partition.first c.requires.partition.first

pub interpolate_one-upper_partition-requires-clause-two : goal.interpolate_one-upper_partition-requires-clause-two
interpolate_one-upper_partition-requires-clause-two t c =
    sequent_there c.args.arena.now c.moved_to.new.arena (larger _ _ _ c.union_sequents.ensures.grown c.moved_to.ensures.grown) c.args.partition.second c.requires.partition.second

pub interpolate_one-upper_partition-requires-clause-premise : goal.interpolate_one-upper_partition-requires-clause-premise
interpolate_one-upper_partition-requires-clause-premise t c = subst (λ (ps : Parts). HasPremises c.moved_to.new.arena ps) c.in-One.is c.in_ok-rule.ensures.premises_there

pub interpolate_one-upper_partition-requires-clause-parts : goal.interpolate_one-upper_partition-requires-clause-parts
interpolate_one-upper_partition-requires-clause-parts t c =
    let a = c.args.arena.now in
    let b = c.union_sequents.new.self in
    let d = c.moved_to.new.arena in
    let q = c.args.partition in
    let h = c.requires.partition in
    let whole = larger a b d c.union_sequents.ensures.grown c.moved_to.ensures.grown in
    let m = c.part_of-side.result in
    let r = rule_at d c.in_ok-rule.field-0.rule in
    let u = tree_at d c.in-One.proof in
    let has = premise_has a b d c.union_sequents.ensures.grown q.proof c.in_ok-end.end q.first q.second c.in-One.proof c.in_ok-rule.field-0.rule c.in_ok-rule.field-0.premises h.proof c.in_ok-end.ensures.union c.in_ok-rule.ensures.rule c.in_ok-rule.ensures.trees c.in-One.is
    c.requires.single c.premises.ensures.one_premise m h.parts in
    subst (λ (P : Type 0). P) (λ k. HasParts u (first_above m r 0 (sym (sequent_stays a d whole q.first h.first) k)) (second_above m r 0 (sym (sequent_stays a d whole q.second h.second) k))) has

pub interpolate_one-interpolate_at-requires : goal.interpolate_one-interpolate_at-requires
interpolate_one-interpolate_at-requires t c =
    let a = c.args.arena.now in
    let b = c.union_sequents.new.self in
    let d = c.moved_to.new.arena in
    let e = c.upper_partition.new.arena in
    let q = c.args.partition in
    let h = c.requires.partition in
    let lower = premise_lower a b d c.union_sequents.ensures.grown q.proof c.in_ok-end.end q.first q.second c.in-One.proof c.in_ok-rule.field-0.rule c.in_ok-rule.field-0.premises h.proof c.in_ok-end.ensures.union c.in_ok-rule.ensures.rule c.in_ok-rule.ensures.trees c.in-One.is
    c.requires.single in
    let same = ap height c.in_ok-upper.ensures.proof in
    let less : 4 * height (tree_at e c.in_ok-upper.upper.proof) + 3 < 4 * height (tree_at a q.proof) = omega arith in
    let table = known_there a e (larger a d e (larger a b d c.union_sequents.ensures.grown c.moved_to.ensures.grown) c.upper_partition.ensures.grown) c.args.table.now c.requires.table in
    search (rules, less, c.in_ok-upper.ensures.partition, table, c.decreases)

pub interpolate_one-over_one-requires-clause-rule : goal.interpolate_one-over_one-requires-clause-rule
interpolate_one-over_one-requires-clause-rule t c =
    rule_parts_there c.moved_to.new.arena c.interpolate_at.new.arena (larger _ _ _ c.upper_partition.ensures.grown c.interpolate_at.ensures.grown) c.in_ok-rule.field-0.rule c.in_ok-rule.ensures.rule_there

pub interpolate_one-over_one-requires-clause-one : goal.interpolate_one-over_one-requires-clause-one
interpolate_one-over_one-requires-clause-one t c =
    sequent_there c.args.arena.now c.interpolate_at.new.arena (larger _ c.moved_to.new.arena _ (larger _ _ _ c.union_sequents.ensures.grown c.moved_to.ensures.grown) (larger _ _ _ c.upper_partition.ensures.grown c.interpolate_at.ensures.grown)) c.args.partition.first c.requires.partition.first

pub interpolate_one-over_one-requires-clause-two : goal.interpolate_one-over_one-requires-clause-two
interpolate_one-over_one-requires-clause-two t c =
    sequent_there c.args.arena.now c.interpolate_at.new.arena (larger _ c.moved_to.new.arena _ (larger _ _ _ c.union_sequents.ensures.grown c.moved_to.ensures.grown) (larger _ _ _ c.upper_partition.ensures.grown c.interpolate_at.ensures.grown)) c.args.partition.second c.requires.partition.second

pub interpolate_one-over_one-requires-clause-made : goal.interpolate_one-over_one-requires-clause-made
interpolate_one-over_one-requires-clause-made t c = interpolation_there c.interpolate_at.new.arena _ c.in_ok-made.made c.in_ok-made.ensures.made

pub interpolate_one-returns-clause-made : goal.interpolate_one-returns-clause-made
interpolate_one-returns-clause-made t c =
    let a = c.args.arena.now in
    let b = c.union_sequents.new.self in
    let d = c.moved_to.new.arena in
    let f = c.interpolate_at.new.arena in
    let q = c.args.partition in
    let h = c.requires.partition in
    let m = c.part_of-side.result in
    let r = c.in_ok-rule.field-0.rule in
    let first = larger a b d c.union_sequents.ensures.grown c.moved_to.ensures.grown in
    let second = larger _ _ _ c.upper_partition.ensures.grown c.interpolate_at.ensures.grown in
    let whole = larger a d f first second in
    let made = interpolation_is f _ c.in_ok-made.made c.in_ok-made.ensures.made ∙ c.in_ok-upper.ensures.above
    ∙ (λ k. above itp m (rule_at d r) 0 (tree_at d c.in-One.proof) (sequent_stays a d first q.first h.first k) (sequent_stays a d first q.second h.second k)) in
    let side : m ≡ part_of (rule_of (tree_at a q.proof)) (sequent_at a q.first) = c.part_of-side.ensures ∙ ap (λ x. part_of x (sequent_at a q.first)) (sym c.rule.ensures.rule) in
    made_same c.over_one.result c.over_one.new.arena _ _
    ((λ k. over_one m (rule_stays d f second r c.in_ok-rule.ensures.rule_there k) (sequent_stays a f whole q.first h.first k) (sequent_stays a f whole q.second h.second k) (interpolation_at f c.in_ok-made.made))
    ∙ premise_made a b d c.union_sequents.ensures.grown q.proof c.in_ok-end.end q.first q.second c.in-One.proof r c.in_ok-rule.field-0.premises h.proof c.in_ok-end.ensures.union c.in_ok-rule.ensures.rule c.in_ok-rule.ensures.trees c.in-One.is
    c.requires.single c.steps.ensures.one_premise c.requires.main m _ side made) c.over_one.ensures.made

pub interpolate_one-returns-clause-table : goal.interpolate_one-returns-clause-table
interpolate_one-returns-clause-table t c = anyway c.over_one.result _ (known_there c.interpolate_at.new.arena c.over_one.new.arena c.over_one.ensures.grown c.interpolate_at.new.table c.in_ok-made.ensures.table)

pub interpolate_one-returns-clause-grown : goal.interpolate_one-returns-clause-grown
interpolate_one-returns-clause-grown t c =
    larger _ _ _ (larger _ _ _ (larger _ _ _ (larger _ _ _ c.union_sequents.ensures.grown c.moved_to.ensures.grown) c.upper_partition.ensures.grown) c.interpolate_at.ensures.grown) c.over_one.ensures.grown

pub interpolate_two-upper_partition-requires-clause-parts : goal.interpolate_two-upper_partition-requires-clause-parts
interpolate_two-upper_partition-requires-clause-parts t c =
    let a = c.args.arena.now in
    let q = c.args.partition in
    let l = tree_at a c.args.left in
    let has = first_descends (tree_at a q.proof) (sequent_at a q.first) (sequent_at a q.second) l (tree_at a c.args.right) c.requires.both c.premises.ensures.first_of_two c.part_of-side.result c.requires.partition.parts in
    subst (λ (r : Rule). HasParts l (first_above c.part_of-side.result r 0 (sequent_at a q.first)) (second_above c.part_of-side.result r 0 (sequent_at a q.second))) c.rule-rule.ensures.rule has

pub interpolate_two-interpolate_at-requires : goal.interpolate_two-interpolate_at-requires
interpolate_two-interpolate_at-requires t c =
    let a = c.args.arena.now in
    let b = c.upper_partition.new.arena in
    let q = c.args.partition in
    let lower = first_lower (tree_at a q.proof) (tree_at a c.args.left) (more (tree_at a c.args.right) none) c.requires.both in
    let same = ap height c.in_ok-upper.ensures.proof in
    let less : 4 * height (tree_at b c.in_ok-upper.upper.proof) + 3 < 4 * height (tree_at a q.proof) = omega arith in
    let table = known_there a b c.upper_partition.ensures.grown c.args.table.now c.requires.table in
    search (rules, less, c.in_ok-upper.ensures.partition, table, c.decreases)

pub interpolate_two-upper_partition-requires-2-clause-rule : goal.interpolate_two-upper_partition-requires-2-clause-rule
interpolate_two-upper_partition-requires-2-clause-rule t c =
    rule_parts_there c.args.arena.now c.interpolate_at.new.arena (larger _ _ _ c.upper_partition.ensures.grown c.interpolate_at.ensures.grown) c.rule-rule.result c.rule-rule.ensures.parts

pub interpolate_two-upper_partition-requires-2-clause-premise : goal.interpolate_two-upper_partition-requires-2-clause-premise
interpolate_two-upper_partition-requires-2-clause-premise t c =
    tree_there c.args.arena.now c.interpolate_at.new.arena (larger _ _ _ c.upper_partition.ensures.grown c.interpolate_at.ensures.grown) c.args.right c.requires.right

pub interpolate_two-upper_partition-requires-2-clause-one : goal.interpolate_two-upper_partition-requires-2-clause-one
interpolate_two-upper_partition-requires-2-clause-one t c =
    sequent_there c.args.arena.now c.interpolate_at.new.arena (larger _ _ _ c.upper_partition.ensures.grown c.interpolate_at.ensures.grown) c.args.partition.first c.requires.partition.first

pub interpolate_two-upper_partition-requires-2-clause-two : goal.interpolate_two-upper_partition-requires-2-clause-two
interpolate_two-upper_partition-requires-2-clause-two t c =
    sequent_there c.args.arena.now c.interpolate_at.new.arena (larger _ _ _ c.upper_partition.ensures.grown c.interpolate_at.ensures.grown) c.args.partition.second c.requires.partition.second

pub interpolate_two-upper_partition-requires-2-clause-parts : goal.interpolate_two-upper_partition-requires-2-clause-parts
interpolate_two-upper_partition-requires-2-clause-parts t c =
    let a = c.args.arena.now in
    let d = c.interpolate_at.new.arena in
    let q = c.args.partition in
    let h = c.requires.partition in
    let m = c.part_of-side.result in
    let r = tree_at a c.args.right in
    let has = second_descends (tree_at a q.proof) (sequent_at a q.first) (sequent_at a q.second) (tree_at a c.args.left) r c.requires.both c.premises.ensures.second_of_two m h.parts in
    let named = subst (λ (x : Rule). HasParts r (first_above m x 1 (sequent_at a q.first)) (second_above m x 1 (sequent_at a q.second))) c.rule-rule.ensures.rule has in
    parts_there a d (larger _ _ _ c.upper_partition.ensures.grown c.interpolate_at.ensures.grown) m c.rule-rule.result 1 c.args.right q.first q.second c.rule-rule.ensures.parts c.requires.right h.first h.second named

pub interpolate_two-interpolate_at-requires-2 : goal.interpolate_two-interpolate_at-requires-2
interpolate_two-interpolate_at-requires-2 t c =
    let a = c.args.arena.now in
    let d = c.interpolate_at.new.arena in
    let e = c.upper_partition-2.new.arena in
    let q = c.args.partition in
    let lower = second_lower (tree_at a q.proof) (tree_at a c.args.left) (tree_at a c.args.right) c.requires.both in
    let same = ap height (c.in_ok-upper-2.ensures.proof ∙ tree_stays a d (larger _ _ _ c.upper_partition.ensures.grown c.interpolate_at.ensures.grown) c.args.right c.requires.right) in
    let less : 4 * height (tree_at e c.in_ok-upper-2.upper.proof) + 3 < 4 * height (tree_at a q.proof) = omega arith in
    let table = known_there d e c.upper_partition-2.ensures.grown c.interpolate_at.new.table c.in_ok-left.ensures.table in
    search (rules, less, c.in_ok-upper-2.ensures.partition, table, c.decreases)

pub interpolate_two-join-requires-clause-rule : goal.interpolate_two-join-requires-clause-rule
interpolate_two-join-requires-clause-rule t c =
    rule_parts_there c.args.arena.now c.interpolate_at-2.new.arena
    (larger _ c.interpolate_at.new.arena _ (larger _ _ _ c.upper_partition.ensures.grown c.interpolate_at.ensures.grown) (larger _ _ _ c.upper_partition-2.ensures.grown c.interpolate_at-2.ensures.grown)) c.rule-rule.result c.rule-rule.ensures.parts

pub interpolate_two-join-requires-clause-one : goal.interpolate_two-join-requires-clause-one
interpolate_two-join-requires-clause-one t c =
    sequent_there c.args.arena.now c.interpolate_at-2.new.arena
    (larger _ c.interpolate_at.new.arena _ (larger _ _ _ c.upper_partition.ensures.grown c.interpolate_at.ensures.grown) (larger _ _ _ c.upper_partition-2.ensures.grown c.interpolate_at-2.ensures.grown)) c.args.partition.first c.requires.partition.first

pub interpolate_two-join-requires-clause-two : goal.interpolate_two-join-requires-clause-two
interpolate_two-join-requires-clause-two t c =
    sequent_there c.args.arena.now c.interpolate_at-2.new.arena
    (larger _ c.interpolate_at.new.arena _ (larger _ _ _ c.upper_partition.ensures.grown c.interpolate_at.ensures.grown) (larger _ _ _ c.upper_partition-2.ensures.grown c.interpolate_at-2.ensures.grown)) c.args.partition.second c.requires.partition.second

pub interpolate_two-join-requires-clause-left : goal.interpolate_two-join-requires-clause-left
interpolate_two-join-requires-clause-left t c =
    interpolated_there c.interpolate_at.new.arena c.interpolate_at-2.new.arena (larger _ _ _ c.upper_partition-2.ensures.grown c.interpolate_at-2.ensures.grown) c.in_ok-left.left (interpolation_there c.interpolate_at.new.arena _ c.in_ok-left.left c.in_ok-left.ensures.made)

pub interpolate_two-join-requires-clause-right : goal.interpolate_two-join-requires-clause-right
interpolate_two-join-requires-clause-right t c = interpolation_there c.interpolate_at-2.new.arena _ c.in_ok-right.right c.in_ok-right.ensures.made

pub interpolate_two-returns-clause-made : goal.interpolate_two-returns-clause-made
interpolate_two-returns-clause-made t c =
    let a = c.args.arena.now in
    let d = c.interpolate_at.new.arena in
    let f = c.interpolate_at-2.new.arena in
    let q = c.args.partition in
    let h = c.requires.partition in
    let m = c.part_of-side.result in
    let r = c.rule-rule.result in
    let first = larger a _ d c.upper_partition.ensures.grown c.interpolate_at.ensures.grown in
    let second = larger d _ f c.upper_partition-2.ensures.grown c.interpolate_at-2.ensures.grown in
    let whole = larger a d f first second in
    let left = interpolation_is f _ c.in_ok-left.left (has_later d f second _ c.in_ok-left.left c.in_ok-left.ensures.made) ∙ c.in_ok-upper.ensures.above in
    let right = interpolation_is f _ c.in_ok-right.right c.in_ok-right.ensures.made ∙ c.in_ok-upper-2.ensures.above
    ∙ above_later a d first m r 1 c.args.right q.first q.second c.rule-rule.ensures.parts c.requires.right h.first h.second in
    made_same c.join.result c.join.new.arena _ _
    ((λ k. joined m (rule_stays a f whole r c.rule-rule.ensures.parts k) (sequent_stays a f whole q.first h.first k) (sequent_stays a f whole q.second h.second k) (interpolation_at f c.in_ok-left.left) (interpolation_at f c.in_ok-right.right))
    ∙ two_made (tree_at a q.proof) (sequent_at a q.first) (sequent_at a q.second) (tree_at a c.args.left) (tree_at a c.args.right) c.requires.both c.steps.ensures.two_premises c.requires.main (rule_at a r) m _ _ (sym c.rule-rule.ensures.rule) c.part_of-side.ensures left right)
    c.join.ensures.made

pub interpolate_two-returns-clause-table : goal.interpolate_two-returns-clause-table
interpolate_two-returns-clause-table t c = anyway c.join.result _ (known_there c.interpolate_at-2.new.arena c.join.new.arena c.join.ensures.grown c.interpolate_at-2.new.table c.in_ok-right.ensures.table)

pub interpolate_two-returns-clause-grown : goal.interpolate_two-returns-clause-grown
interpolate_two-returns-clause-grown t c =
    larger _ _ _ (larger _ c.interpolate_at.new.arena _ (larger _ _ _ c.upper_partition.ensures.grown c.interpolate_at.ensures.grown) (larger _ _ _ c.upper_partition-2.ensures.grown c.interpolate_at-2.ensures.grown)) c.join.ensures.grown

pub interpolate_at-note-requires-clause-partition : goal.interpolate_at-note-requires-clause-partition
interpolate_at-note-requires-clause-partition t c = partition_there c.args.arena.now c.interpolate_root.new.arena c.interpolate_root.ensures.grown c.args.partition c.requires.partition

pub interpolate_at-note-requires-clause-made : goal.interpolate_at-note-requires-clause-made
interpolate_at-note-requires-clause-made t c =
    has_same c.interpolate_root.new.arena _ _ c.in_ok-made.made (sym (itp_stays c.args.arena.now c.interpolate_root.new.arena c.interpolate_root.ensures.grown c.args.partition c.requires.partition)) c.in_ok-made.ensures.made

pub interpolate_one-returns-in_err-upper-clause-grown : goal.interpolate_one-returns-in_err-upper-clause-grown
interpolate_one-returns-in_err-upper-clause-grown t c = larger _ _ _ (larger _ _ _ c.union_sequents.ensures.grown c.moved_to.ensures.grown) c.upper_partition.ensures.grown

pub interpolate_one-returns-in_err-made-clause-grown : goal.interpolate_one-returns-in_err-made-clause-grown
interpolate_one-returns-in_err-made-clause-grown t c = larger _ _ _ (larger _ _ _ (larger _ _ _ c.union_sequents.ensures.grown c.moved_to.ensures.grown) c.upper_partition.ensures.grown) c.interpolate_at.ensures.grown

pub interpolate_two-returns-in_err-right-clause-grown : goal.interpolate_two-returns-in_err-right-clause-grown
interpolate_two-returns-in_err-right-clause-grown t c =
    larger _ c.interpolate_at.new.arena _ (larger _ _ _ c.upper_partition.ensures.grown c.interpolate_at.ensures.grown) (larger _ _ _ c.upper_partition-2.ensures.grown c.interpolate_at-2.ensures.grown)

pub interpolate_one-unreachable-requires : goal.interpolate_one-unreachable-requires
interpolate_one-unreachable-requires t c =
    let a = c.args.arena.now in
    let b = c.union_sequents.new.self in
    let p = c.args.partition.proof in
    one_is_there c.moved_to.new.arena (sequent_at b c.in_ok-end.end) (tree_at b p) (tree_at a p) c.in_ok-rule.field-0.premises c.in_ok-rule.ensures.trees (tree_stays a b c.union_sequents.ensures.grown p c.requires.partition.proof) c.requires.single
    c.in_default.not-One
