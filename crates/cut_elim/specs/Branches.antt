-- What work on two premises at once comes to.
use Rattle.std.specs.Prelude.{◌≡◌, ℕ, ◌+◌, ◌≤◌, List, Err, Some, None, IfOk}
use Rattle.proof_trees.specs.Trees.{Tree}
use Rattle.cut_laws.specs.Elimination.{elimination}
use Rattle.arena_cells.specs.Items.{Item}
use Rattle.arena_cells.specs.Standing.{tree_at, IsTreeAt}
use Rattle.arena_cuts.specs.declared.fault.ElimFault.TheVariants.{Budget}
use Rattle.cut_elim.specs.declared.forking.Branch.{Branch}
use Rattle.cut_elim.specs.declared.forking.Both.{Both}

-- in its arena the branch has what is reached from t within the budget n, or nothing is reached; and how many contractions it counted
pub record IsBranchOf {M : Type 0} (t : Tree) (n : ℕ) (b : Branch M) : Type 0 where
  pub there : IfOk b.made (λ made. IsTreeAt b.arena made.proof)
  pub ok : IfOk b.made (λ made. elimination t n ≡ Some (tree_at b.arena made.proof, made.reductions))
  pub budget : b.made ≡ Err Budget → elimination t n ≡ None
  pub counted_ok : IfOk b.made (λ made. b.steps ≤ made.reductions)
  pub counted : b.steps ≤ n
  pub least : b.steps ≡ 0 → IfOk b.made (λ made. made.reductions ≡ 0)

-- what is reached from l and from r, each within the whole budget n, where the numbers of contractions are at most n together
pub record AreBoth (a : List Item) (l r : Tree) (n : ℕ) (b : Both) : Type 0 where
  pub left_there : IsTreeAt a b.left.proof
  pub right_there : IsTreeAt a b.right.proof
  pub left : elimination l n ≡ Some (tree_at a b.left.proof, b.left.reductions)
  pub right : elimination r n ≡ Some (tree_at a b.right.proof, b.right.reductions)
  pub within : b.left.reductions + b.right.reductions ≤ n
