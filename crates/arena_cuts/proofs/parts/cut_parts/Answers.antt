-- The key of the formula and the last rules of the premises tell what takes the place of the cut.
use Rattle.std.proofs.Common.{sym, ap, subst, ◌∙◌}
use Rattle.arena_cells.specs.Standing.{sequent_at, formula_at, tree_at}
use Rattle.arena_cells.specs.Meaning.{trees_at}
use Rattle.arena_subst.proofs.Images.{premises_valid}
use Rattle.arena_cuts.specs.declared.parts.Reduction.{Reduction}
use Rattle.arena_cuts.specs.Reductions.{IsReductionAt, reduced_tree}
use Rattle.arena_cuts.proofs.Stable.{tree_made}
use Rattle.arena_cuts.proofs.Reducing.{reduction_there, reduction_is}
use Rattle.arena_cuts.proofs.parts.cut_parts.Goals as goal

pub put_reduction-requires-clause-reduction : goal.put_reduction-requires-clause-reduction
put_reduction-requires-clause-reduction c =
    let a = c.args.arena.now in
    subst (λ (r : Reduction). IsReductionAt a r) (sym c.reduce-reduction.ensures)
    (reduction_there a c.key.result.now c.rule.result c.premises.result c.rule-2.result c.premises-2.result c.key.ensures.parts c.rule.ensures.parts c.premises.ensures.there
    (premises_valid (tree_at a c.args.cut.left) (trees_at a c.premises.result) c.premises.ensures.trees c.requires.left_valid) c.rule-2.ensures.parts c.premises-2.ensures.there
    (premises_valid (tree_at a c.args.cut.right) (trees_at a c.premises-2.result) c.premises-2.ensures.trees c.requires.right_valid))

pub returns-clause-tree : goal.returns-clause-tree
returns-clause-tree c =
    let a = c.args.arena.now in
    let cut = c.args.cut in
    let s = sequent_at a cut.end in
    let l = tree_at a cut.left in
    let r = tree_at a cut.right in
    tree_made c.put_reduction.result c.put_reduction.new.arena _ _
    (ap (reduced_tree a s (formula_at a cut.formula) l r) c.reduce-reduction.ensures
    ∙ reduction_is a s cut.formula c.key.result.now l r c.rule.result c.premises.result c.rule-2.result c.premises-2.result c.key.ensures c.rule.ensures.rule c.premises.ensures.trees c.rule-2.ensures.rule c.premises-2.ensures.trees)
    c.put_reduction.ensures.tree
