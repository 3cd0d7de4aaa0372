-- What becomes of two proofs.
use Rattle.std.specs.Prelude.{◌≡◌, ℕ, ◌-◌, List, Some}
use Rattle.proof_trees.specs.Trees.{Tree}
use Rattle.cut_laws.specs.Elimination.{elimination}
use Rattle.arena_cells.specs.Items.{Item}
use Rattle.arena_cells.specs.Standing.{tree_at, IsTreeAt}
use Rattle.arena_cuts.specs.declared.elimination.Both.{Both}

-- the elimination in l within the budget n, and that in r within what is left of it
pub record AreBoth (a : List Item) (l r : Tree) (n : ℕ) (b : Both) : Type 0 where
  pub left_there : IsTreeAt a b.left.proof
  pub right_there : IsTreeAt a b.right.proof
  pub left : elimination l n ≡ Some (tree_at a b.left.proof, b.left.reductions)
  pub right : elimination r (n - b.left.reductions) ≡ Some (tree_at a b.right.proof, b.right.reductions)
