-- What a proof comes to is made of what its parts come to, and the work falls.
use Rattle.std.proofs.Common.{rules, arith, ◌≡◌, ℕ, ◌+◌, ◌*◌, ◌<◌, max, sym, ap, subst, ◌∙◌}
use Rattle.fol.specs.Syntax.{Formula}
use Rattle.lk_rules.specs.declared.sequent.Sequent.{Sequent}
use Rattle.proof_trees.specs.Trees.{Tree, node, none, more, rule_of, concl, below, is_cut, IsValid, AllValid}
use Rattle.cut_laws.specs.Contraction.{cut, con}
use Rattle.arena_cells.specs.declared.key.Parts.{Parts}
use Rattle.arena_cells.specs.Standing.{HasTree, sequent_at, formula_at, tree_at, IsTreeAt}
use Rattle.arena_cells.specs.Meaning.{rule_at, trees_at, HasPremises}
use Rattle.arena_cells.proofs.Staying.{is_sequent, is_tree, sequent_stays, formula_stays, tree_stays, tree_there, sequent_there, formula_there}
use Rattle.arena_cells.proofs.Facts as facts
use Rattle.arena_subst.proofs.Images.{premises_valid}
use Rattle.arena_cuts.specs.CutNumbers.{IsCutAt, cut_at}
use Rattle.arena_cuts.specs.Whole.{ReducesTo, ReduceTo}
use Rattle.arena_cuts.proofs.Stable.{larger}
use Rattle.arena_cuts.proofs.Rooted.{cut_of, not_cut, by_parts_of}
use Rattle.arena_cuts.proofs.WholeKnown.{whole_known_there}
use Rattle.arena_cuts.proofs.WholeSteps.{made_then, cut_reduces, one_reduces, two_reduce, other_reduces}
use Rattle.arena_cuts.proofs.WholeWork.{whole_work, greatest_work, lowest_valid, falls_at_root, falls_in_cut, falls_in_premises}
use Rattle.arena_cuts.proofs.whole.+eliminate_whole.Goals as goal

pub eliminate_whole_in-whole_root-requires : goal.eliminate_whole_in-whole_root-requires
eliminate_whole_in-whole_root-requires g t c κs within =
    let w = whole_work (tree_at c.args.arena.now c.args.proof) in
    let less : 8 * w + 1 < 8 * w + 2 = omega arith in
    search (rules, less, c.decreases, within)

pub whole_root-whole_other-requires : goal.whole_root-whole_other-requires
whole_root-whole_other-requires g t c κs within =
    let a = c.args.arena.now in
    let w = whole_work (tree_at a c.args.proof) in
    let less : 8 * w < 8 * w + 1 = omega arith in
    let other = ap is_cut c.rule.ensures.rule ∙ not_cut a c.rule.result c.in_default.not-Cut in
    search (rules, less, other, c.decreases, within)

pub whole_root-whole_cut-requires : goal.whole_root-whole_cut-requires
whole_root-whole_cut-requires g t c κs within =
    let a = c.args.arena.now in
    let tree = tree_at a c.args.proof in
    let whole = cut (sequent_at a c.end.result) (formula_at a c.in-Cut.formula) (tree_at a c.in-Two.left) (tree_at a c.in-Two.right) in
    let shape : tree ≡ whole = cut_of tree _ _ _ _ c.in-Cut.ensures.rule (sym (is_sequent a c.end.result _ c.end.ensures)) c.in-Two.ensures.trees in
    let same = ap whole_work shape in
    let less : 8 * whole_work whole < 8 * whole_work tree + 1 = omega arith in
    let there : IsCutAt a (record { end = c.end.result; formula = c.in-Cut.formula; left = c.in-Two.left; right = c.in-Two.right }) = record {
      end = facts.sequent_there a c.end.result _ c.end.ensures;
      formula = c.in-Cut.ensures.parts;
      left = c.in-Two.ensures.there.0;
      right = c.in-Two.ensures.there.1;
    } in
    let valid = subst (λ (u : Tree). IsValid u) shape c.requires.valid in
    search (rules, less, there, valid, c.decreases, within)

pub whole_cut-whole_both-requires : goal.whole_cut-whole_both-requires
whole_cut-whole_both-requires g t c κs within =
    let a = c.args.arena.now in
    let s = sequent_at a c.args.cut.end in
    let f = formula_at a c.args.cut.formula in
    let l = tree_at a c.args.cut.left in
    let r = tree_at a c.args.cut.right in
    let falls = falls_in_cut s f l r c.requires.valid in
    let less : 8 * max (whole_work l) (whole_work r) + 3 < 8 * whole_work (cut s f l r) = omega arith in
    search (rules, less, c.requires.cut.left, c.requires.cut.right, c.requires.valid.1.0, c.requires.valid.1.1.0, c.decreases, within)

pub whole_cut-whole_lowest-requires : goal.whole_cut-whole_lowest-requires
whole_cut-whole_lowest-requires g t c κs within =
    let a = c.args.arena.now in
    let b = c.whole_both.new.arena in
    let parts = c.args.cut in
    let h = c.requires.cut in
    let both = c.in-Ok.both in
    let made = c.in-Ok.ensures in
    let s = sequent_at a parts.end in
    let f = formula_at a parts.formula in
    let l = tree_at a parts.left in
    let r = tree_at a parts.right in
    let u = tree_at b both.left in
    let v = tree_at b both.right in
    let falls = falls_at_root s f l r u v c.requires.valid made.both.left made.both.right in
    let same : whole_work (con (sequent_at b parts.end) (formula_at b parts.formula) u v) ≡ whole_work (con s f u v) =
    λ i. whole_work (con (sequent_stays a b made.grown parts.end h.end i) (formula_stays a b made.grown parts.formula h.formula i) u v) in
    let less : 8 * whole_work (con (sequent_at b parts.end) (formula_at b parts.formula) u v) + 3 < 8 * whole_work (cut_at a parts) = omega arith in
    let there : IsCutAt b (record { end = parts.end; formula = parts.formula; left = both.left; right = both.right }) = record {
      end = sequent_there a b made.grown parts.end h.end;
      formula = formula_there a b made.grown parts.formula h.formula;
      left = made.both.left_there;
      right = made.both.right_there;
    } in
    let valid : IsValid (cut (sequent_at b parts.end) (formula_at b parts.formula) u v) =
    subst (λ (x : Sequent × Formula). IsValid (cut x.0 x.1 u v)) (λ i. (sym (sequent_stays a b made.grown parts.end h.end) i, sym (formula_stays a b made.grown parts.formula h.formula) i))
    (lowest_valid s f l r u v c.requires.valid made.both.left made.both.right) in
    search (rules, less, there, valid, made.table, c.decreases, within)

pub whole_cut-returns-clause-reduced : goal.whole_cut-returns-clause-reduced
whole_cut-returns-clause-reduced g t c =
    let a = c.args.arena.now in
    let b = c.whole_both.new.arena in
    let d = c.whole_lowest.new.arena in
    let parts = c.args.cut in
    let h = c.requires.cut in
    let both = c.in-Ok.both in
    let made = c.in-Ok.ensures in
    let s = sequent_at a parts.end in
    let f = formula_at a parts.formula in
    let u = tree_at b both.left in
    let v = tree_at b both.right in
    let whole = con (sequent_at b parts.end) (formula_at b parts.formula) u v in
    let same : whole ≡ con s f u v = λ i. con (sequent_stays a b made.grown parts.end h.end i) (formula_stays a b made.grown parts.formula h.formula i) u v in
    made_then c.whole_lowest.result (λ (n : ℕ). ReducesTo whole (tree_at d n)) (λ (n : ℕ). ReducesTo (cut_at a parts) (tree_at d n))
    (λ n z. cut_reduces s f (tree_at a parts.left) (tree_at a parts.right) u v (tree_at d n) made.both.left made.both.right (subst (λ (x : Tree). ReducesTo x (tree_at d n)) same z))
    c.whole_lowest.ensures.reduced

pub whole_cut-returns-clause-grown : goal.whole_cut-returns-clause-grown
whole_cut-returns-clause-grown g t c = larger _ _ _ c.in-Ok.ensures.grown c.whole_lowest.ensures.grown

pub whole_lowest-eliminate_whole_in-requires : goal.whole_lowest-eliminate_whole_in-requires
whole_lowest-eliminate_whole_in-requires g t c κs within =
    let a = c.args.arena.now in
    let b = c.contract_in.new.arena in
    let parts = c.args.cut in
    let whole = con (sequent_at a parts.end) (formula_at a parts.formula) (tree_at a parts.left) (tree_at a parts.right) in
    let same = ap whole_work (is_tree b c.in-Ok.made whole c.in-Ok.ensures.tree) in
    let less : 8 * whole_work (tree_at b c.in-Ok.made) + 2 < 8 * whole_work whole + 3 = omega arith in
    let there = facts.tree_there b c.in-Ok.made whole c.in-Ok.ensures.tree in
    let known = whole_known_there a b c.in-Ok.ensures.grown c.args.table.now c.requires.table in
    let valid = subst (λ (t : Tree). IsValid t) (sym (is_tree b c.in-Ok.made whole c.in-Ok.ensures.tree)) (c.contraction.ensures.valid _ _ _ _ c.requires.valid) in
    search (rules, less, there, valid, known, c.decreases, within)

pub whole_other-whole_premises-requires : goal.whole_other-whole_premises-requires
whole_other-whole_premises-requires g t c κs within =
    let a = c.args.arena.now in
    let tree = tree_at a c.args.proof in
    let ts = trees_at a c.premises-above.result in
    let valid = subst (λ (u : Tree). IsValid u) (by_parts_of tree) c.requires.valid in
    let falls = falls_in_premises (rule_of tree) (concl tree) (below tree) c.requires.other valid in
    let whole = ap whole_work (by_parts_of tree) in
    let same = ap greatest_work c.premises-above.ensures.trees in
    let less : 8 * greatest_work ts + 4 < 8 * whole_work tree = omega arith in
    let above = premises_valid tree ts c.premises-above.ensures.trees c.requires.valid in
    search (rules, less, above, c.premises-above.ensures.there, c.decreases, within)

pub whole_premises-eliminate_whole_in-requires : goal.whole_premises-eliminate_whole_in-requires
whole_premises-eliminate_whole_in-requires g t c κs within =
    let a = c.args.arena.now in
    let only = tree_at a c.in-One.only in
    let same = ap (λ (ps : Parts). greatest_work (trees_at a ps)) c.in-One.is in
    let less : 8 * whole_work only + 2 < 8 * greatest_work (trees_at a c.args.proofs) + 4 = omega arith in
    let there : IsTreeAt a c.in-One.only = subst (λ (ps : Parts). HasPremises a ps) c.in-One.is c.requires.proofs in
    let valid = subst (λ (ps : Parts). AllValid (trees_at a ps)) c.in-One.is c.requires.valid in
    search (rules, less, there, valid.0, c.decreases, within)

pub whole_premises-whole_both-requires : goal.whole_premises-whole_both-requires
whole_premises-whole_both-requires g t c κs within =
    let a = c.args.arena.now in
    let l = tree_at a c.in-Two.left in
    let r = tree_at a c.in-Two.right in
    let same = ap (λ (ps : Parts). greatest_work (trees_at a ps)) c.in-Two.is in
    let less : 8 * max (whole_work l) (whole_work r) + 3 < 8 * greatest_work (trees_at a c.args.proofs) + 4 = omega arith in
    let there = subst (λ (ps : Parts). HasPremises a ps) c.in-Two.is c.requires.proofs in
    let valid = subst (λ (ps : Parts). AllValid (trees_at a ps)) c.in-Two.is c.requires.valid in
    search (rules, less, there.0, there.1, valid.0, valid.1.0, c.decreases, within)

pub whole_both-eliminate_whole_in-requires : goal.whole_both-eliminate_whole_in-requires
whole_both-eliminate_whole_in-requires g t c κs within =
    let a = c.args.arena.now in
    let l = tree_at a c.args.left in
    let r = tree_at a c.args.right in
    let less : 8 * whole_work l + 2 < 8 * max (whole_work l) (whole_work r) + 3 = omega arith in
    search (rules, less, c.decreases, within)

pub whole_both-eliminate_whole_in-requires-2 : goal.whole_both-eliminate_whole_in-requires-2
whole_both-eliminate_whole_in-requires-2 g t c κs within =
    let a = c.args.arena.now in
    let b = c.eliminate_whole_in.new.arena in
    let l = tree_at a c.args.left in
    let r = tree_at a c.args.right in
    let stays = tree_stays a b c.in-Ok.ensures.grown c.args.right c.requires.right in
    let same = ap whole_work stays in
    let less : 8 * whole_work (tree_at b c.args.right) + 2 < 8 * max (whole_work l) (whole_work r) + 3 = omega arith in
    let there = tree_there a b c.in-Ok.ensures.grown c.args.right c.requires.right in
    let valid = subst (λ (u : Tree). IsValid u) (sym stays) c.requires.right_valid in
    search (rules, less, there, valid, c.in-Ok.ensures.table, c.decreases, within)

pub eliminate_whole_in-note-requires-clause-reduced : goal.eliminate_whole_in-note-requires-clause-reduced
eliminate_whole_in-note-requires-clause-reduced g t c =
    let a = c.args.arena.now in
    let b = c.whole_root.new.arena in
    subst (λ (u : Tree). ReducesTo u (tree_at b c.in_ok-made.made)) (sym (tree_stays a b c.in_ok-made.ensures.grown c.args.proof c.requires.proof)) c.in_ok-made.ensures.reduced

pub whole_both-returns-in-Ok-eliminate_whole_in-clause-both :
    goal.whole_both-returns-in-Ok-eliminate_whole_in-clause-both
whole_both-returns-in-Ok-eliminate_whole_in-clause-both g t c =
    let a = c.args.arena.now in
    let b = c.eliminate_whole_in.new.arena in
    let d = c.eliminate_whole_in-2.new.arena in
    let l = c.args.left in
    let r = c.args.right in
    let first = c.in-Ok.first in
    let second = c.in-Ok-eliminate_whole_in.second in
    let made = c.in-Ok.ensures in
    let later = c.in-Ok-eliminate_whole_in.ensures in
    record {
      left_there = tree_there b d later.grown first made.there;
      right_there = later.there;
      left = subst (λ (u : Tree). ReducesTo (tree_at a l) u) (sym (tree_stays b d later.grown first made.there)) made.reduced;
      right = subst (λ (u : Tree). ReducesTo u (tree_at d second)) (tree_stays a b made.grown r c.requires.right) later.reduced;
    }

pub whole_lowest-returns-in-Err-clause-table : goal.whole_lowest-returns-in-Err-clause-table
whole_lowest-returns-in-Err-clause-table g t c =
    whole_known_there c.args.arena.now c.contract_in.new.arena c.contract_in.ensures.grown c.args.table.now c.requires.table

pub whole_other-returns-clause-reduced : goal.whole_other-returns-clause-reduced
whole_other-returns-clause-reduced g t c =
    let a = c.args.arena.now in
    let b = c.whole_premises.new.arena in
    let d = c.inference.new.arena in
    let tree = tree_at a c.args.proof in
    let made = c.in-Ok.made in
    let us = trees_at b made in
    let stays = tree_stays a b c.in-Ok.ensures.grown c.args.proof c.requires.proof in
    let rule : rule_of tree ≡ rule_at b c.rule-rule.result = sym (ap rule_of stays) ∙ c.rule-rule.ensures.rule in
    let end : concl tree ≡ sequent_at b c.end-end.result = sym (ap concl stays) ∙ sym (is_sequent b c.end-end.result _ c.end-end.ensures) in
    let whole = node (rule_at b c.rule-rule.result) (sequent_at b c.end-end.result) us in
    let same : node (rule_of tree) (concl tree) us ≡ whole = λ i. node (rule i) (end i) us in
    let reduced : ReducesTo tree whole =
    subst (λ (u : Tree). ReducesTo tree u) same
    (other_reduces tree (trees_at a c.premises-above.result) us c.requires.other c.premises-above.ensures.trees c.in-Ok.ensures.reduced) in
    made_then c.inference.result (λ (n : ℕ). HasTree d n whole) (λ (n : ℕ). ReducesTo tree (tree_at d n))
    (λ n h. subst (λ (u : Tree). ReducesTo tree u) (sym (is_tree d n whole h)) reduced)
    c.inference.ensures.tree

pub whole_other-returns-clause-table : goal.whole_other-returns-clause-table
whole_other-returns-clause-table g t c =
    whole_known_there c.whole_premises.new.arena c.inference.new.arena c.inference.ensures.grown c.whole_premises.new.table c.in-Ok.ensures.table

pub whole_premises-returns-in-Ok-clause-reduced :
    goal.whole_premises-returns-in-Ok-clause-reduced
whole_premises-returns-in-Ok-clause-reduced g t c =
    let a = c.args.arena.now in
    let b = c.eliminate_whole_in.new.arena in
    let u = tree_at b c.in-Ok.made in
    subst (λ (ps : Parts). ReduceTo (trees_at a ps) (more u none)) (sym c.in-One.is) (one_reduces (tree_at a c.in-One.only) u c.in-Ok.ensures.reduced)

pub whole_premises-returns-in-Ok-whole_both-clause-reduced :
    goal.whole_premises-returns-in-Ok-whole_both-clause-reduced
whole_premises-returns-in-Ok-whole_both-clause-reduced g t c =
    let a = c.args.arena.now in
    let b = c.whole_both.new.arena in
    let both = c.in-Ok-whole_both.both in
    let made = c.in-Ok-whole_both.ensures.both in
    let u = tree_at b both.left in
    let v = tree_at b both.right in
    subst (λ (ps : Parts). ReduceTo (trees_at a ps) (more u (more v none))) (sym c.in-Two.is)
    (two_reduce (tree_at a c.in-Two.left) (tree_at a c.in-Two.right) u v made.left made.right)
