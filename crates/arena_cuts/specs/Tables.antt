-- What a table of eliminations says.
use Rattle.std.specs.Prelude.{◌≡◌, ℕ, nat_eq, List, Some, IfSome}
use Rattle.std.specs.HashMap as hash
use Rattle.std.specs.HashMap.{HashMap}
use Rattle.cut_laws.specs.Elimination.{elimination}
use Rattle.arena_cells.specs.Items.{Item}
use Rattle.arena_cells.specs.Standing.{tree_at, IsTreeAt}
use Rattle.arena_cuts.specs.declared.table.Reduced.{Reduced}

-- the entry has the tree that is reached from the tree at the number, and the number of contractions
pub record IsEliminated (a : List Item) (n : ℕ) (e : Reduced) : Type 0 where
  pub tree : IsTreeAt a n
  pub result_there : IsTreeAt a e.proof
  pub is : elimination (tree_at a n) e.reductions ≡ Some (tree_at a e.proof, e.reductions)

-- each entry of a table does
abbrev pub AreEliminated : {S : Type 0} → List Item → HashMap ℕ Reduced S → Type 0
AreEliminated a table = (n : ℕ) → IfSome (hash.get nat_eq table n) (IsEliminated a n)

-- no entry took a contraction
abbrev pub AreFree : {S : Type 0} → HashMap ℕ Reduced S → Type 0
AreFree table = (n : ℕ) → IfSome (hash.get nat_eq table n) (λ e. e.reductions ≡ 0)
