use Rattle.std.proofs.Common.{◌≡◌, ◌<◌, ◌≤◌, ◌-◌, ◌++◌, ◌∷◌, length, get_or}
use Rattle.std.specs.List.{range_with_len}
use Rattle.exp_check.specs.Links.{has_link}
use Rattle.expansion_laws.specs.Cycles.{way}
use Rattle.exp_check.proofs.cycles.cycle_along.Given as goal

abbrev pub decreases-loop-distance : goal.decreases-loop-distance
decreases-loop-distance l = l.distance

abbrev pub invariant-loop-distance : goal.invariant-loop-distance
invariant-loop-distance l = record {
  first : 1 ≤ l.distance;
  within : l.number < length l.distances;
  here : get_or l.distances l.number 0 ≡ l.distance;
  so_far : l.cycle.items ++ way (has_link l.links) (range_with_len 0 (length l.distances)) (l.distance - 1) l.number l.start
      ≡ l.start ∷ way (has_link l.links) (range_with_len 0 (length l.distances)) (get_or l.distances l.start 0 - 1) l.start l.start;
}
