use Rattle.std.proofs.Common.{ℕ}
use Rattle.exp_check.specs.Links.{AreWithin}
use Rattle.exp_check.proofs.ranks.turned.Given as goal

abbrev pub invariant-loop-link : goal.invariant-loop-link
invariant-loop-link l = (n : ℕ) → AreWithin n l.links → AreWithin n l.turned.items
