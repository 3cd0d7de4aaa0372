-- What proofs come to when their cuts are eliminated without a budget.
--     ReducesTo, ReduceTo      what one tree, or several from left to right, become after some number of replacements
--     AreReduced      what a table says of this
--     AreBothReduced      what becomes of two proofs
use Rattle.std.specs.Prelude.{◌≡◌, ℕ, nat_eq, List, Some, IfSome}
use Rattle.std.specs.HashMap as hash
use Rattle.std.specs.HashMap.{HashMap}
use Rattle.proof_trees.specs.Trees.{Tree, Trees}
use Rattle.cut_laws.specs.Elimination.{Reaches}
use Rattle.cut_laws.specs.Budgets.{elimination_all}
use Rattle.arena_cells.specs.Items.{Item}
use Rattle.arena_cells.specs.Standing.{tree_at, IsTreeAt}
use Rattle.arena_cuts.specs.declared.whole.Pair.{Pair}

-- after some number of replacements, and not before, t has no cut, and it is u
pub record ReducesTo (t u : Tree) : Type 0 where
  pub reductions : ℕ
  pub reaches : Reaches t reductions u

-- after some number of replacements in all, and not before, none of ts has a cut, and they are us
pub record ReduceTo (ts us : Trees) : Type 0 where
  pub reductions : ℕ
  pub is : elimination_all ts reductions ≡ Some (us, reductions)

-- the tree at the number m is what that at n comes to
pub record IsReducedTo (a : List Item) (n m : ℕ) : Type 0 where
  pub tree : IsTreeAt a n
  pub result_there : IsTreeAt a m
  pub reduces : ReducesTo (tree_at a n) (tree_at a m)

-- so it is with each entry of a table
abbrev pub AreReduced : {S : Type 0} → List Item → HashMap ℕ ℕ S → Type 0
AreReduced a table = (n : ℕ) → IfSome (hash.get nat_eq table n) (IsReducedTo a n)

-- what l and r come to
pub record AreBothReduced (a : List Item) (l r : Tree) (b : Pair) : Type 0 where
  pub left_there : IsTreeAt a b.left
  pub right_there : IsTreeAt a b.right
  pub left : ReducesTo l (tree_at a b.left)
  pub right : ReducesTo r (tree_at a b.right)
