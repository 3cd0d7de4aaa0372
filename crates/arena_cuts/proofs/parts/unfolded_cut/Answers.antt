-- The cut has the unfolding, or its own formula where there is none, and the parts that stood before.
use Rattle.std.proofs.Common.{◌≡◌, ℕ, Option, Some, None, option_map, sym, ap, subst, ◌∙◌}
use Rattle.std.specs.Prelude.{IfSome}
use Rattle.substitution.specs.Unfolding.{unf}
use Rattle.cut_laws.specs.Contraction.{cut, cut_unfolded}
use Rattle.arena_cells.specs.Standing.{Extends, sequent_at, formula_at, tree_at, IsFormulaAt}
use Rattle.arena_cells.proofs.Staying.{sequent_stays, tree_stays, sequent_there, tree_there}
use Rattle.arena_cuts.proofs.Stable.{larger, cut_there, cut_stays, tree_made}
use Rattle.arena_cuts.proofs.parts.unfolded_cut.Goals as goal

pub put_cut-requires : goal.put_cut-requires
put_cut-requires c = cut_there c.args.arena.now c.unfolding.new.self c.unfolding.ensures.grown c.args.cut c.requires.cut

pub returns-in_default-clause-tree : goal.returns-in_default-clause-tree
returns-in_default-clause-tree c =
    let a = c.args.arena.now in
    let b = c.unfolding.new.self in
    let k = c.args.cut in
    let absent : None ≡ unf (formula_at a k.formula) = ap (option_map (formula_at b)) (sym c.in_default.is) ∙ c.in_ok-formula.ensures.unfolding in
    tree_made c.put_cut.result c.put_cut.new.arena _ _
    (cut_stays a b c.unfolding.ensures.grown k c.requires.cut
    ∙ ap (λ o. cut_unfolded (sequent_at a k.end) (formula_at a k.formula) (tree_at a k.left) (tree_at a k.right) o (tree_at a c.args.left) (tree_at a c.args.right)) absent)
    c.put_cut.ensures.tree

pub returns-in_default-clause-grown : goal.returns-in_default-clause-grown
returns-in_default-clause-grown c = larger _ _ _ c.unfolding.ensures.grown c.put_cut.ensures.grown

pub put_cut-requires-2 : goal.put_cut-requires-2
put_cut-requires-2 c =
    let a = c.args.arena.now in
    let b = c.unfolding.new.self in
    let grown : Extends a b = c.unfolding.ensures.grown in
    record {
      end = sequent_there a b grown c.args.cut.end c.requires.cut.end;
      formula = subst (λ (o : Option ℕ). IfSome o (λ n. IsFormulaAt b n)) c.in-Some.is c.in_ok-formula.ensures.there;
      left = tree_there a b grown c.args.left c.requires.left;
      right = tree_there a b grown c.args.right c.requires.right;
    }

pub returns-clause-tree : goal.returns-clause-tree
returns-clause-tree c =
    let a = c.args.arena.now in
    let b = c.unfolding.new.self in
    let k = c.args.cut in
    let grown : Extends a b = c.unfolding.ensures.grown in
    let g = formula_at b c.in-Some.formula in
    let present : Some g ≡ unf (formula_at a k.formula) = ap (option_map (formula_at b)) (sym c.in-Some.is) ∙ c.in_ok-formula.ensures.unfolding in
    tree_made c.put_cut-2.result c.put_cut-2.new.arena _ _
    ((λ i. cut (sequent_stays a b grown k.end c.requires.cut.end i) g (tree_stays a b grown c.args.left c.requires.left i) (tree_stays a b grown c.args.right c.requires.right i))
    ∙ ap (λ o. cut_unfolded (sequent_at a k.end) (formula_at a k.formula) (tree_at a k.left) (tree_at a k.right) o (tree_at a c.args.left) (tree_at a c.args.right)) present)
    c.put_cut-2.ensures.tree
