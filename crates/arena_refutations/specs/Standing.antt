-- What stands in the arena of an import.
--     IsClosedAt      the closures of clauses
use Rattle.std.specs.Prelude.{◌≡◌, List, map}
use Rattle.std.specs.List.{All}
use Rattle.arena_cells.specs.Items.{Item}
use Rattle.arena_cells.specs.Standing.{HasSequent, formula_at, IsFormulaAt}
use Rattle.refutations.specs.declared.clause.Clause.{Clause}
use Rattle.refutations.specs.Clauses.{closure_of, closures}
use Rattle.arena_refutations.specs.declared.closing.Closed.{Closed}

-- the closures of the clauses, each and as a sequent
pub record IsClosedAt (a : List Item) (cs : List Clause) (c : Closed) : Type 0 where
  pub there : All (IsFormulaAt a) c.closures.items
  pub each : map (formula_at a) c.closures.items ≡ map closure_of cs
  pub end : HasSequent a c.end (closures cs)
