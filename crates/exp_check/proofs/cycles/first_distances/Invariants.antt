use Rattle.std.proofs.Common.{◌≡◌, ℕ, length, take, get_or}
use Rattle.std.specs.Prelude.{if◌then◌else◌}
use Rattle.exp_check.specs.Links.{has_link}
use Rattle.exp_check.proofs.cycles.first_distances.Given as goal

abbrev pub invariant-loop-link : goal.invariant-loop-link
invariant-loop-link l = record {
  count : length l.distances.items ≡ l.count;
  values : (i : ℕ) → get_or l.distances.items i 0 ≡ (if has_link (take l.link-index l.links) i l.start then 1 else 0);
}
