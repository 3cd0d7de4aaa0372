use Rattle.std.proofs.Common.{◌≡◌, ◌<◌, length}
use Rattle.std.specs.List.{All}
use Rattle.exp_check.proofs.ranks.take_away.Given as goal

abbrev pub invariant-loop-link : goal.invariant-loop-link
invariant-loop-link l = (length l.counts ≡ length l.fn.counts) × All (λ i. i < length l.fn.counts) l.ready.items
