-- The tree is a cut by the numbers of its parts.
use Rattle.std.proofs.Common.{◌≡◌, ℕ, true, false, sym, ap, ◌∙◌}
use Rattle.std.specs.Prelude.{Some}
use Rattle.proof_trees.specs.Trees.{Tree, rule_of, is_cut}
use Rattle.cut_laws.specs.Contraction.{cut}
use Rattle.arena_cells.specs.Items.{tree}
use Rattle.arena_cells.specs.Standing.{HasTree, sequent_at, formula_at, tree_at}
use Rattle.arena_cells.proofs.Staying.{is_sequent}
use Rattle.arena_cells.proofs.Reading.{if_ok}
use Rattle.arena_cuts.proofs.Rooted.{cut_of, not_cut}
use Rattle.cut_contract.specs.LowestCuts.{contracted}
use Rattle.cut_contract.proofs.contraction.contract_number.Goals as goal

pub unreachable-requires : goal.unreachable-requires
unreachable-requires g c =
    let a = c.args.arena.now in
    let other : is_cut (rule_of (tree_at a c.args.cut)) ≡ false = ap is_cut c.rule.ensures.rule ∙ not_cut a c.rule.result c.in_default.not-Cut in
    let same : is_cut (rule_of (tree_at a c.args.cut)) ≡ true = ap (λ (t : Tree). is_cut (rule_of t)) c.requires.cut.is in
    cc

pub returns-clause-tree : goal.returns-clause-tree
returns-clause-tree g c =
    let a = c.args.arena.now in
    let whole = tree_at a c.args.cut in
    let shape : whole ≡ cut (sequent_at a c.end-end.result) (formula_at a c.in-Cut.formula) (tree_at a c.in-Two.left) (tree_at a c.in-Two.right) =
    cut_of whole _ _ _ _ c.in-Cut.ensures.rule (sym (is_sequent a c.end-end.result _ c.end-end.ensures)) c.in-Two.ensures.trees in
    if_ok c.contract_in.result _ (λ (n : ℕ). HasTree c.contract_in.new.arena n (contracted whole)) (λ n s. s ∙ ap (λ (t : Tree). Some (tree (contracted t))) (sym shape)) c.contract_in.ensures.tree
