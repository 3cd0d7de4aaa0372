use Rattle.std.proofs.Common.{◌≡◌, map, take}
use Rattle.arena_building.proofs.placed.lent.Given as goal

abbrev pub invariant-loop-instance : goal.invariant-loop-instance
invariant-loop-instance l = map (λ i. i.now) l.list.items ≡ take l.instance-index l.instances
