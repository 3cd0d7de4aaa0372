use Rattle.std.proofs.Common.{◌≡◌, ◌++◌, drop}
use Rattle.arena_building.specs.Sides.{numbers_on}
use Rattle.arena_building.proofs.sides.side_of.Given as goal

abbrev pub invariant-loop-placed : goal.invariant-loop-placed
invariant-loop-placed l = l.formulas.items ++ numbers_on l.side (drop l.placed-index l.list) ≡ numbers_on l.side l.list
