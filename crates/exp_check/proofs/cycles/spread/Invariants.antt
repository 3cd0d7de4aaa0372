use Rattle.std.proofs.Common.{◌≡◌, ℕ, false, length, take, get_or}
use Rattle.exp_check.specs.Distances.{spread_at}
use Rattle.exp_check.proofs.cycles.spread.Given as goal

abbrev pub invariant-loop-link : goal.invariant-loop-link
invariant-loop-link l = record {
  count : length l.distances ≡ length l.fn.distances;
  values : (i : ℕ) → get_or l.distances i 0 ≡ spread_at (take l.link-index l.links) l.fn.distances l.distance i;
  same : l.found ≡ false → (i : ℕ) → get_or l.distances i 0 ≡ get_or l.fn.distances i 0;
}
