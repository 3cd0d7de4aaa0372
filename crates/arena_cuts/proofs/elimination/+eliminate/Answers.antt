-- The elimination in a proof is that in its parts, and the work falls.
use Rattle.std.proofs.Common.{rules, arith, ◌≡◌, ◌+◌, ◌-◌, ◌*◌, ◌<◌, suc, Some, sym, ap, subst, ◌∙◌}
use Rattle.fol.specs.Syntax.{Formula}
use Rattle.lk_rules.specs.declared.sequent.Sequent.{Sequent}
use Rattle.lk_rules.specs.declared.sequent.Side.TheVariants.{Left, Right}
use Rattle.proof_trees.specs.Trees.{Tree, node, none, more, rule_of, concl, below, is_cut, IsValid, AllValid}
use Rattle.cut_laws.specs.Contraction.{cut, con}
use Rattle.cut_laws.specs.Elimination.{elimination}
use Rattle.cut_laws.specs.Budgets.{contracted, work, work_all}
use Rattle.cut_laws.proofs.ValidCuts.{cut_valid_with}
use Rattle.arena_cells.specs.declared.key.Parts.{Parts}
use Rattle.arena_cells.specs.Standing.{sequent_at, formula_at, tree_at, IsTreeAt}
use Rattle.arena_cells.specs.Meaning.{trees_at, HasPremises}
use Rattle.arena_cells.proofs.Staying.{is_sequent, is_tree, sequent_stays, formula_stays, tree_stays, tree_there, sequent_there, formula_there}
use Rattle.arena_cells.proofs.Facts as facts
use Rattle.arena_cuts.specs.CutNumbers.{IsCutAt, cut_at}
use Rattle.arena_cuts.proofs.PairWork.{pair_work, left_work, right_work, pair_in_cut, pair_in_all}
use Rattle.arena_cuts.proofs.CutSteps.{root_none, root_some}
use Rattle.arena_cuts.proofs.Stable.{larger}
use Rattle.arena_cuts.proofs.Known.{known_there}
use Rattle.arena_subst.proofs.Images.{premises_valid}
use Rattle.arena_cuts.proofs.Rooted.{cut_of, not_cut, by_parts_of, other_some, untouched}
use Rattle.arena_cuts.proofs.elimination.+eliminate.Goals as goal

pub eliminate_all-eliminate_in-requires : goal.eliminate_all-eliminate_in-requires
eliminate_all-eliminate_in-requires g t c κs within =
    let a = c.args.arena.now in
    let n = c.args.budget in
    let only = tree_at a c.in-One.only in
    let first = c.falling_work.ensures.first only none n in
    let same = ap (λ (ps : Parts). work_all n (trees_at a ps)) c.in-One.is in
    let less : 8 * work n only + 2 < 8 * work_all n (trees_at a c.args.proofs) + 4 = omega arith in
    let there : IsTreeAt a c.in-One.only = subst (λ (ps : Parts). HasPremises a ps) c.in-One.is c.requires.proofs in
    let valid = subst (λ (ps : Parts). AllValid (trees_at a ps)) c.in-One.is c.requires.valid in
    search (rules, less, there, valid.0, c.decreases, within)

pub eliminate_all-eliminate_both-requires : goal.eliminate_all-eliminate_both-requires
eliminate_all-eliminate_both-requires g t c κs within =
    let a = c.args.arena.now in
    let n = c.args.budget in
    let l = tree_at a c.in-Two.left in
    let r = tree_at a c.in-Two.right in
    let falls = c.falling_work.ensures in
    let pair = pair_in_all l r n (falls.first l (more r none) n) (λ m. falls.first r none m) (λ u k e. falls.rest l u (more r none) k n e) in
    let same = ap (λ (ps : Parts). work_all n (trees_at a ps)) c.in-Two.is in
    let less : 8 * pair_work n l r + 3 < 8 * work_all n (trees_at a c.args.proofs) + 4 = omega arith in
    let there = subst (λ (ps : Parts). HasPremises a ps) c.in-Two.is c.requires.proofs in
    let valid = subst (λ (ps : Parts). AllValid (trees_at a ps)) c.in-Two.is c.requires.valid in
    search (rules, less, there.0, there.1, valid.0, valid.1.0, c.decreases, within)

pub eliminate_both-eliminate_in-requires : goal.eliminate_both-eliminate_in-requires
eliminate_both-eliminate_in-requires g t c κs within =
    let a = c.args.arena.now in
    let n = c.args.budget in
    let l = tree_at a c.args.left in
    let r = tree_at a c.args.right in
    let part = left_work n l r in
    let less : 8 * work n l + 2 < 8 * pair_work n l r + 3 = omega arith in
    search (rules, less, c.decreases, within)

pub eliminate_both-eliminate_in-requires-2 : goal.eliminate_both-eliminate_in-requires-2
eliminate_both-eliminate_in-requires-2 g t c κs within =
    let a = c.args.arena.now in
    let b = c.eliminate_in.new.arena in
    let n = c.args.budget in
    let l = tree_at a c.args.left in
    let r = tree_at a c.args.right in
    let i = c.in-Ok.first.reductions in
    let part = right_work n l r _ i c.in-Ok.ensures.ok in
    let same = ap (work (n - i)) (tree_stays a b c.in-Ok.ensures.grown c.args.right c.requires.right) in
    let less : 8 * work (n - i) (tree_at b c.args.right) + 2 < 8 * pair_work n l r + 3 = omega arith in
    let there = tree_there a b c.in-Ok.ensures.grown c.args.right c.requires.right in
    let valid = subst (λ (u : Tree). IsValid u) (sym (tree_stays a b c.in-Ok.ensures.grown c.args.right c.requires.right)) c.requires.right_valid in
    search (rules, less, there, valid, c.in-Ok.ensures.table, c.decreases, within)

pub eliminate_cut-eliminate_both-requires : goal.eliminate_cut-eliminate_both-requires
eliminate_cut-eliminate_both-requires g t c κs within =
    let a = c.args.arena.now in
    let n = c.args.budget in
    let s = sequent_at a c.args.cut.end in
    let f = formula_at a c.args.cut.formula in
    let l = tree_at a c.args.cut.left in
    let r = tree_at a c.args.cut.right in
    let pair = pair_in_cut s f l r n (c.falling_work.ensures.left s f l r n) (λ u k e. c.falling_work.ensures.right s f l r u k n e) in
    let less : 8 * pair_work n l r + 3 < 8 * work n (cut s f l r) = omega arith in
    search (rules, less, c.requires.cut.left, c.requires.cut.right, c.requires.valid.1.0, c.requires.valid.1.1.0, c.decreases, within)

pub eliminate_cut-eliminate_lowest-requires : goal.eliminate_cut-eliminate_lowest-requires
eliminate_cut-eliminate_lowest-requires g t c κs within =
    let a = c.args.arena.now in
    let b = c.eliminate_both.new.arena in
    let n = c.args.budget in
    let parts = c.args.cut in
    let h = c.requires.cut in
    let both = c.in-Ok.both in
    let made = c.in-Ok.ensures in
    let s = sequent_at a parts.end in
    let f = formula_at a parts.formula in
    let u = tree_at b both.left.proof in
    let v = tree_at b both.right.proof in
    let m = n - (both.left.reductions + both.right.reductions) in
    let some : 0 < m = omega (arith, made.within, c.if-above-budget.false) in
    let room : n - both.left.reductions - both.right.reductions ≡ suc (m - 1) = omega arith in
    let falls = c.falling_work.ensures.root s f (tree_at a parts.left) (tree_at a parts.right) u v both.left.reductions both.right.reductions (m - 1) n made.both.left made.both.right room in
    let same : work (m - 1) (con (sequent_at b parts.end) (formula_at b parts.formula) u v) ≡ work (m - 1) (con s f u v) =
    λ i. work (m - 1) (con (sequent_stays a b made.grown parts.end h.end i) (formula_stays a b made.grown parts.formula h.formula i) u v) in
    let less : 8 * work (m - 1) (con (sequent_at b parts.end) (formula_at b parts.formula) u v) + 3 < 8 * work n (cut_at a parts) = omega arith in
    let there : IsCutAt b (record { end = parts.end; formula = parts.formula; left = both.left.proof; right = both.right.proof }) = record {
      end = sequent_there a b made.grown parts.end h.end;
      formula = formula_there a b made.grown parts.formula h.formula;
      left = made.both.left_there;
      right = made.both.right_there;
    } in
    let results = c.results.ensures in
    let above = c.requires.valid.1 in
    let l = tree_at a parts.left in
    let r = tree_at a parts.right in
    let i = both.left.reductions in
    let j = both.right.reductions in
    let lowest : IsValid (cut s f u v) = cut_valid_with Left s f r u v
    (cut_valid_with Right s f l r u c.requires.valid (results.end l u i n made.both.left) (results.valid l u i n above.0 made.both.left))
    (results.end r v j (n - i) made.both.right) (results.valid r v j (n - i) above.1.0 made.both.right) in
    let valid : IsValid (cut (sequent_at b parts.end) (formula_at b parts.formula) u v) =
    subst (λ (x : Sequent × Formula). IsValid (cut x.0 x.1 u v)) (λ i. (sym (sequent_stays a b made.grown parts.end h.end) i, sym (formula_stays a b made.grown parts.formula h.formula) i)) lowest in
    search (rules, less, there, valid, some, made.table, c.decreases, within)

pub eliminate_cut-returns-in-Err-eliminate_lowest-clause-budget :
    goal.eliminate_cut-returns-in-Err-eliminate_lowest-clause-budget
eliminate_cut-returns-in-Err-eliminate_lowest-clause-budget g t c =
    let a = c.args.arena.now in
    let b = c.eliminate_both.new.arena in
    let n = c.args.budget in
    let cut = c.args.cut in
    let h = c.requires.cut in
    let both = c.in-Ok.both in
    let made = c.in-Ok.ensures in
    let s = sequent_at a cut.end in
    let f = formula_at a cut.formula in
    let l = tree_at a cut.left in
    let r = tree_at a cut.right in
    let u = tree_at b both.left.proof in
    let v = tree_at b both.right.proof in
    let m = n - (both.left.reductions + both.right.reductions) in
    let room : n - both.left.reductions - both.right.reductions ≡ m = omega arith in
    let same : contracted s f u v m ≡ contracted (sequent_at b cut.end) (formula_at b cut.formula) u v m =
    λ i. contracted (sym (sequent_stays a b made.grown cut.end h.end) i) (sym (formula_stays a b made.grown cut.formula h.formula) i) u v m in
    λ e. root_none s f l r n (c.big_steps.ensures.cut s f l r n) u v both.left.reductions both.right.reductions made.both.left made.both.right m room (same ∙ c.in-Err-eliminate_lowest.ensures.budget e)

pub eliminate_cut-returns-clause-ok : goal.eliminate_cut-returns-clause-ok
eliminate_cut-returns-clause-ok g t c =
    let a = c.args.arena.now in
    let b = c.eliminate_both.new.arena in
    let n = c.args.budget in
    let cut = c.args.cut in
    let h = c.requires.cut in
    let both = c.in-Ok.both in
    let made = c.in-Ok.ensures in
    let s = sequent_at a cut.end in
    let f = formula_at a cut.formula in
    let l = tree_at a cut.left in
    let r = tree_at a cut.right in
    let u = tree_at b both.left.proof in
    let v = tree_at b both.right.proof in
    let m = n - (both.left.reductions + both.right.reductions) in
    let room : n - both.left.reductions - both.right.reductions ≡ m = omega arith in
    let same : contracted s f u v m ≡ contracted (sequent_at b cut.end) (formula_at b cut.formula) u v m =
    λ i. contracted (sym (sequent_stays a b made.grown cut.end h.end) i) (sym (formula_stays a b made.grown cut.formula h.formula) i) u v m in
    root_some s f l r n (c.big_steps.ensures.cut s f l r n) u v both.left.reductions both.right.reductions made.both.left made.both.right m room _ _ (same ∙ c.in-Ok-eliminate_lowest.ensures.ok)

pub eliminate_cut-returns-clause-grown : goal.eliminate_cut-returns-clause-grown
eliminate_cut-returns-clause-grown g t c = larger _ _ _ c.in-Ok.ensures.grown c.in-Ok-eliminate_lowest.ensures.grown

pub eliminate_in-eliminate_root-requires : goal.eliminate_in-eliminate_root-requires
eliminate_in-eliminate_root-requires g t c κs within =
    let w = work c.args.budget (tree_at c.args.arena.now c.args.proof) in
    let less : 8 * w + 1 < 8 * w + 2 = omega arith in
    search (rules, less, c.decreases, within)

pub eliminate_lowest-eliminate_in-requires : goal.eliminate_lowest-eliminate_in-requires
eliminate_lowest-eliminate_in-requires g t c κs within =
    let a = c.args.arena.now in
    let b = c.contract_in.new.arena in
    let n = c.args.budget in
    let cut = c.args.cut in
    let whole = con (sequent_at a cut.end) (formula_at a cut.formula) (tree_at a cut.left) (tree_at a cut.right) in
    let same = ap (work (n - 1)) (is_tree b c.in-Ok.made whole c.in-Ok.ensures.tree) in
    let less : 8 * work (n - 1) (tree_at b c.in-Ok.made) + 2 < 8 * work (n - 1) whole + 3 = omega arith in
    let there = facts.tree_there b c.in-Ok.made whole c.in-Ok.ensures.tree in
    let known = known_there a b c.in-Ok.ensures.grown c.args.table.now c.requires.table in
    let valid = subst (λ (t : Tree). IsValid t) (sym (is_tree b c.in-Ok.made whole c.in-Ok.ensures.tree)) (c.contraction.ensures.valid _ _ _ _ c.requires.valid) in
    search (rules, less, there, valid, known, c.decreases, within)

pub eliminate_other-eliminate_all-requires : goal.eliminate_other-eliminate_all-requires
eliminate_other-eliminate_all-requires g t c κs within =
    let a = c.args.arena.now in
    let n = c.args.budget in
    let tree = tree_at a c.args.proof in
    let falls = c.falling_work.ensures.other (rule_of tree) (concl tree) (below tree) n c.requires.other in
    let whole = ap (work n) (by_parts_of tree) in
    let same = ap (work_all n) c.premises-above.ensures.trees in
    let less : 8 * work_all n (trees_at a c.premises-above.result) + 4 < 8 * work n tree = omega arith in
    let valid = premises_valid tree (trees_at a c.premises-above.result) c.premises-above.ensures.trees c.requires.valid in
    search (rules, less, valid, c.premises-above.ensures.there, c.decreases, within)

pub eliminate_other-returns-in-Ok-inference-clause-ok :
    goal.eliminate_other-returns-in-Ok-inference-clause-ok
eliminate_other-returns-in-Ok-inference-clause-ok g t c =
    let a = c.args.arena.now in
    let b = c.eliminate_all.new.arena in
    let n = c.args.budget in
    let tree = tree_at a c.args.proof in
    let made = c.in-Ok.made in
    let stays = tree_stays a b c.in-Ok.ensures.grown c.args.proof c.requires.proof in
    let rule = sym (ap rule_of stays) ∙ c.rule-rule.ensures.rule in
    let end = sym (ap concl stays) ∙ sym (is_sequent b c.end-end.result _ c.end-end.ensures) in
    other_some tree n (c.big_steps.ensures.other (rule_of tree) (concl tree) (below tree) n c.requires.other) _ _ made.reductions c.premises-above.ensures.trees c.in-Ok.ensures.ok
    ∙ (λ i. Some (node (rule i) (end i) (trees_at b made.proofs), made.reductions))
    ∙ ap (λ (u : Tree). Some (u, made.reductions)) (sym (is_tree c.inference.new.arena c.in-Ok-inference.proof _ c.in-Ok-inference.ensures.tree))

pub eliminate_other-returns-in-Ok-inference-clause-table :
    goal.eliminate_other-returns-in-Ok-inference-clause-table
eliminate_other-returns-in-Ok-inference-clause-table g t c =
    known_there c.eliminate_all.new.arena c.inference.new.arena c.inference.ensures.grown c.eliminate_all.new.table c.in-Ok.ensures.table

pub eliminate_root-eliminate_other-requires : goal.eliminate_root-eliminate_other-requires
eliminate_root-eliminate_other-requires g t c κs within =
    let a = c.args.arena.now in
    let w = work c.args.budget (tree_at a c.args.proof) in
    let less : 8 * w < 8 * w + 1 = omega arith in
    let other = ap is_cut c.rule.ensures.rule ∙ not_cut a c.rule.result c.in_default.not-Cut in
    search (rules, less, other, c.decreases, within)

pub eliminate_root-eliminate_cut-requires : goal.eliminate_root-eliminate_cut-requires
eliminate_root-eliminate_cut-requires g t c κs within =
    let a = c.args.arena.now in
    let n = c.args.budget in
    let tree = tree_at a c.args.proof in
    let whole = cut (sequent_at a c.end.result) (formula_at a c.in-Cut.formula) (tree_at a c.in-Two.left) (tree_at a c.in-Two.right) in
    let shape : tree ≡ whole = cut_of tree _ _ _ _ c.in-Cut.ensures.rule (sym (is_sequent a c.end.result _ c.end.ensures)) c.in-Two.ensures.trees in
    let same = ap (work n) shape in
    let less : 8 * work n whole < 8 * work n tree + 1 = omega arith in
    let there : IsCutAt a (record { end = c.end.result; formula = c.in-Cut.formula; left = c.in-Two.left; right = c.in-Two.right }) = record {
      end = facts.sequent_there a c.end.result _ c.end.ensures;
      formula = c.in-Cut.ensures.parts;
      left = c.in-Two.ensures.there.0;
      right = c.in-Two.ensures.there.1;
    } in
    let valid = subst (λ (u : Tree). IsValid u) shape c.requires.valid in
    search (rules, less, there, valid, c.decreases, within)

pub eliminate_cut-returns-in-Err-eliminate_lowest-clause-grown :
    goal.eliminate_cut-returns-in-Err-eliminate_lowest-clause-grown
eliminate_cut-returns-in-Err-eliminate_lowest-clause-grown g t c = larger _ _ _ c.in-Ok.ensures.grown c.eliminate_lowest.ensures.grown

pub eliminate_lowest-returns-in_default-clause-table :
    goal.eliminate_lowest-returns-in_default-clause-table
eliminate_lowest-returns-in_default-clause-table g t c =
    known_there c.args.arena.now c.contract_in.new.arena c.contract_in.ensures.grown c.args.table.now c.requires.table

pub eliminate_other-returns-in-Err-inference-clause-table :
    goal.eliminate_other-returns-in-Err-inference-clause-table
eliminate_other-returns-in-Err-inference-clause-table g t c =
    known_there c.eliminate_all.new.arena c.inference.new.arena c.inference.ensures.grown c.eliminate_all.new.table c.in-Ok.ensures.table

pub eliminate_other-returns-then-reductions-eq0-clause-ok :
    goal.eliminate_other-returns-then-reductions-eq0-clause-ok
eliminate_other-returns-then-reductions-eq0-clause-ok g t c =
    let a = c.args.arena.now in
    let b = c.eliminate_all.new.arena in
    let n = c.args.budget in
    let tree = tree_at a c.args.proof in
    let made = c.in-Ok.made in
    untouched tree n (c.big_steps.ensures.other (rule_of tree) (concl tree) (below tree) n c.requires.other) _ _ made.reductions c.premises-above.ensures.trees c.in-Ok.ensures.ok c.if-reductions-eq0.true
    (λ u found. ((c.least.ensures tree n u 0).0 found).0)
    ∙ ap (λ (u : Tree). Some (u, made.reductions)) (sym (tree_stays a b c.in-Ok.ensures.grown c.args.proof c.requires.proof))

pub eliminate_both-returns-in-Ok-eliminate_in-clause-both : goal.eliminate_both-returns-in-Ok-eliminate_in-clause-both
eliminate_both-returns-in-Ok-eliminate_in-clause-both g t c =
    let a = c.eliminate_in.new.arena in
    let b = c.eliminate_in-2.new.arena in
    let first = c.in-Ok.first in
    let grown = c.in-Ok-eliminate_in.ensures.grown in
    let right = tree_stays c.args.arena.now a c.in-Ok.ensures.grown c.args.right c.requires.right in
    record {
      left_there = tree_there a b grown first.proof c.in-Ok.ensures.there;
      right_there = c.in-Ok-eliminate_in.ensures.there;
      left = c.in-Ok.ensures.ok ∙ ap (λ (u : Tree). Some (u, first.reductions)) (sym (tree_stays a b grown first.proof c.in-Ok.ensures.there));
      right = ap (λ (u : Tree). elimination u (c.args.budget - first.reductions)) (sym right) ∙ c.in-Ok-eliminate_in.ensures.ok;
    }

pub eliminate_other-rule-rule-requires : goal.eliminate_other-rule-rule-requires
eliminate_other-rule-rule-requires g t c = tree_there c.args.arena.now c.eliminate_all.new.arena c.in-Ok.ensures.grown c.args.proof c.requires.proof

pub eliminate_other-end-end-requires : goal.eliminate_other-end-end-requires
eliminate_other-end-end-requires g t c = tree_there c.args.arena.now c.eliminate_all.new.arena c.in-Ok.ensures.grown c.args.proof c.requires.proof

pub eliminate_other-returns-in-Ok-inference-clause-grown :
    goal.eliminate_other-returns-in-Ok-inference-clause-grown
eliminate_other-returns-in-Ok-inference-clause-grown g t c = larger _ _ _ c.in-Ok.ensures.grown c.in-Ok-inference.ensures.grown

pub eliminate_other-returns-in-Err-inference-clause-grown :
    goal.eliminate_other-returns-in-Err-inference-clause-grown
eliminate_other-returns-in-Err-inference-clause-grown g t c = larger _ _ _ c.in-Ok.ensures.grown c.inference.ensures.grown
