-- The formulas that are passed are short.
use Rattle.std.proofs.Common.{ℕ, ◌<◌, get_or}
use Rattle.arena_cells.specs.Standing.{formula_at}
use Rattle.arena_flat.specs.Short.{IsShort}
use Rattle.arena_flat.proofs.sequents.are_short.Given as goal

abbrev pub invariant-loop-formula : goal.invariant-loop-formula
invariant-loop-formula l = (k d : ℕ) → k < l.formula-index → IsShort (formula_at l.from (get_or l.formulas k d))
