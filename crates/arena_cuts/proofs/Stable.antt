-- The parts of cuts stay in a larger arena.
use Rattle.std.proofs.Common.{◌≡◌, ℕ, List, subst}
use Rattle.std.specs.Prelude.{Result, IfOk}
use Rattle.lk_rules.specs.declared.sequent.Side.{Side}
use Rattle.proof_trees.specs.Trees.{Tree}
use Rattle.cut_laws.specs.Contraction.{cut, premise_on}
use Rattle.arena_cells.specs.Items.{Item}
use Rattle.arena_cells.specs.Standing.{Extends, HasTree, tree_at}
use Rattle.arena_cells.proofs.Staying.{sequent_stays, formula_stays, tree_stays, sequent_there, formula_there, tree_there}
use Rattle.arena_cuts.specs.declared.cut.Cut.{Cut}
use Rattle.arena_cuts.specs.CutNumbers.{IsCutAt, cut_at}

pub larger : (a b c : List Item) → Extends a b → Extends b c → Extends a c
larger a b c first second n t h = second n t (first n t h)

module _ (a b : List Item) (grown : Extends a b) where
  pub cut_there : (c : Cut) → IsCutAt a c → IsCutAt b c
  cut_there c h = record {
    end = sequent_there a b grown c.end h.end;
    formula = formula_there a b grown c.formula h.formula;
    left = tree_there a b grown c.left h.left;
    right = tree_there a b grown c.right h.right;
  }

  pub cut_stays : (c : Cut) → IsCutAt a c → cut_at b c ≡ cut_at a c
  cut_stays c h =
      λ i. cut (sequent_stays a b grown c.end h.end i) (formula_stays a b grown c.formula h.formula i) (tree_stays a b grown c.left h.left i) (tree_stays a b grown c.right h.right i)

  pub premise_stays : (side : Side) (c : Cut) → IsCutAt a c → premise_on side (tree_at b c.left) (tree_at b c.right) ≡ premise_on side (tree_at a c.left) (tree_at a c.right)
  premise_stays side c h = λ i. premise_on side (tree_stays a b grown c.left h.left i) (tree_stays a b grown c.right h.right i)

-- a tree that was made, by another description
pub tree_made : {E : Type 0} (r : Result ℕ E) (a : List Item) (t u : Tree) → t ≡ u → IfOk r (λ n. HasTree a n t) → IfOk r (λ n. HasTree a n u)
tree_made r a t u same = subst (λ (x : Tree). IfOk r (λ n. HasTree a n x)) same
