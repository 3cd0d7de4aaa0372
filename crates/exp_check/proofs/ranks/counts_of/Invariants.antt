use Rattle.std.proofs.Common.{◌≡◌, length}
use Rattle.exp_check.proofs.ranks.counts_of.Given as goal

abbrev pub invariant-loop-link : goal.invariant-loop-link
invariant-loop-link l = length l.counts.items ≡ l.count
