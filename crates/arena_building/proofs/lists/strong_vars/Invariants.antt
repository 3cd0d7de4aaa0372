use Rattle.std.proofs.Common.{◌≡◌, ◌++◌, drop}
use Rattle.building_laws.specs.Lists.{strongs_in_list}
use Rattle.arena_building.specs.Numbered.{trees}
use Rattle.arena_building.proofs.lists.strong_vars.Given as goal

abbrev pub invariant-loop-placed : goal.invariant-loop-placed
invariant-loop-placed l = l.vars.items ++ strongs_in_list (trees (drop l.placed-index l.list)) ≡ strongs_in_list (trees l.list)
