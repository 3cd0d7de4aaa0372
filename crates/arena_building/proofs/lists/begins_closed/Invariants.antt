use Rattle.std.proofs.Common.{◌≡◌, drop}
use Rattle.arena_building.specs.Choosing.{begins_closed}
use Rattle.arena_building.specs.Numbered.{trees}
use Rattle.arena_building.proofs.lists.begins_closed.Given as goal

abbrev pub invariant-loop-placed : goal.invariant-loop-placed
invariant-loop-placed l = begins_closed (trees (drop l.placed-index l.list)) ≡ begins_closed (trees l.list)
