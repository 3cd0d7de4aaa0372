use Rattle.std.proofs.Common.{◌≡◌, take}
use Rattle.arena_building.proofs.lists.copy_list.Given as goal

abbrev pub invariant-loop-placed : goal.invariant-loop-placed
invariant-loop-placed l = l.copies.items ≡ take l.placed-index l.list
