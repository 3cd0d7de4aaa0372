use Rattle.std.proofs.Common.{◌≡◌, length}
use Rattle.exp_check.proofs.ranks.ranks.Given as goal

abbrev pub invariant-loop-number : goal.invariant-loop-number
invariant-loop-number l = length l.ranks.items ≡ l.number
