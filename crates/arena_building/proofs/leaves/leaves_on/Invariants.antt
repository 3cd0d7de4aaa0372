use Rattle.std.proofs.Common.{◌≡◌, ◌++◌, drop}
use Rattle.arena_building.specs.Leaves.{leaf_numbers}
use Rattle.arena_building.proofs.leaves.leaves_on.Given as goal

abbrev pub invariant-loop-placed : goal.invariant-loop-placed
invariant-loop-placed l = l.numbers.items ++ leaf_numbers l.side (drop l.placed-index l.list) ≡ leaf_numbers l.side l.list
