use Rattle.std.proofs.Common.{◌≡◌, ◌≤◌, length}
use Rattle.exp_check.specs.Distances.{AreDistances}
use Rattle.exp_check.proofs.cycles.distances.Given as goal

abbrev pub invariant-loop-distance : goal.invariant-loop-distance
invariant-loop-distance l = record {
  first : 1 ≤ l.distance;
  last : l.distance ≤ l.count;
  count : length l.distances.items ≡ l.count;
  distances : AreDistances l.links l.count l.start l.distance l.distances.items;
}
