-- The least of the later keys.
use Rattle.std.proofs.Common.{◌≡◌, ℕ, ◌<◌, ◌≤◌, map, length, drop, get_or, IfSome, option_map}
use Rattle.finite.specs.Finite as set
use Rattle.herbrand_laws.specs.Patterns.{TermSet}
use Rattle.herbrand_laws.specs.Candidates.{least}
use Rattle.numbered_terms.specs.Numbered.{set_at}
use Rattle.delta_rows.specs.ValueOrder.{by_cost}
use Rattle.delta_table.proofs.costs.least_place.Given as goal

abbrev pub invariant-loop-at : goal.invariant-loop-at
invariant-loop-at l = record {
  low : l.at ≤ length l.keys;
  within : IfSome l.least (λ k. k < length l.keys);
  value : (c : TermSet → ℕ) → l.costs ≡ map (λ k. c (set_at l.cells k)) l.keys → option_map (λ k. get_or (map (set_at l.cells) l.keys) k set.empty) l.least ≡ least (by_cost c) (drop l.at (map (set_at l.cells) l.keys));
}

abbrev pub decreases-loop-at : goal.decreases-loop-at
decreases-loop-at l = l.at
