use Rattle.std.proofs.Common.{◌≡◌, ◌<◌, length}
use Rattle.std.specs.List.{All}
use Rattle.exp_check.proofs.ranks.places.Given as goal

abbrev pub invariant-loop-place : goal.invariant-loop-place
invariant-loop-place l = (length l.places.items ≡ l.count) × (length l.counts.items ≡ l.count) × All (λ i. i < l.count) l.ready.items
