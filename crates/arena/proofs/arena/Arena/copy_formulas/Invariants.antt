-- The formulas so far.
use Rattle.std.proofs.Common.{◌≡◌, map, take}
use Rattle.arena_cells.specs.Standing.{formula_at}
use Rattle.arena.proofs.arena.Arena.copy_formulas.Given as goal

abbrev pub invariant-loop-number : goal.invariant-loop-number
invariant-loop-number l = l.list.items ≡ map (formula_at l.self) (take l.number-index l.numbers)
