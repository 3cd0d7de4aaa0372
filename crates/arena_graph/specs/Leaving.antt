-- Trees that leave an arena, and what was met in a walk over one.
use Rattle.std.specs.Prelude.{ℕ, List}
use Rattle.std.specs.List.{All}
use Rattle.proof_trees.specs.Trees.{IsValid}
use Rattle.proof_trees.specs.Conclusions.{HasFormedEnd}
use Rattle.arena_cells.specs.Items.{Item}
use Rattle.arena_cells.specs.Standing.{tree_at, IsFormulaAt, IsTreeAt}
use Rattle.arena_graph.specs.declared.leaving.Leaving.{Leaving}
use Rattle.arena_graph.specs.declared.leaving.Met.{Met}

-- a valid tree stands at the number, whose end sequent has well-formed formulas
pub record IsLeaving (a : List Item) (n : ℕ) : Type 0 where
  pub there : IsTreeAt a n
  pub valid : IsValid (tree_at a n)
  pub formed : HasFormedEnd (tree_at a n)

-- such trees stand at the numbers
abbrev pub AreLeaving : List Item → List Leaving → Type 0
AreLeaving a ts = All (λ t. IsLeaving a t.number) ts

-- the formulas that were met stand at their numbers, and so do the trees
pub record HasMet (a : List Item) (m : Met) : Type 0 where
  pub formulas : All (IsFormulaAt a) m.formulas.items
  pub trees : AreLeaving a m.trees.items
