-- The variables so far.
use Rattle.std.proofs.Common.{◌≡◌, map, take}
use Rattle.arena_cells.specs.Standing.{variable_at}
use Rattle.arena.proofs.arena.Arena.copy_variables.Given as goal

abbrev pub invariant-loop-number : goal.invariant-loop-number
invariant-loop-number l = l.list.items ≡ map (variable_at l.self) (take l.number-index l.numbers)
