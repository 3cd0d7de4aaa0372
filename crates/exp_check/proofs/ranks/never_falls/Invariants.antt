use Rattle.std.proofs.Common.{take}
use Rattle.exp_check.specs.Ranks.{NeverFall}
use Rattle.exp_check.proofs.ranks.never_falls.Given as goal

abbrev pub invariant-loop-link : goal.invariant-loop-link
invariant-loop-link l = NeverFall l.ranks (take l.link-index l.links)
