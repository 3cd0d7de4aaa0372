-- The terms so far are copied.
use Rattle.std.proofs.Common.{◌≡◌, map, take}
use Rattle.arena_cells.specs.Standing.{term_at}
use Rattle.delta_table.proofs.sets.values_at.Given as goal

abbrev pub invariant-loop-number : goal.invariant-loop-number
invariant-loop-number l = l.values.items ≡ map (term_at l.cells) (take l.number-index l.numbers)
