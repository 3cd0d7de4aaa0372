-- The tuples so far are counted.
use Rattle.std.proofs.Common.{◌≡◌, ◌-◌, ◌^◌, min, take}
use Rattle.herbrand_laws.specs.Counted.{counted}
use Rattle.delta_table.proofs.instances.count.Given as goal

abbrev pub invariant-loop-item : goal.invariant-loop-item
invariant-loop-item l = l.count ≡ min (counted (take l.item-index l.item-items)) (2 ^ 64 - 1)
