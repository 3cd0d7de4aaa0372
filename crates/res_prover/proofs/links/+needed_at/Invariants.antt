-- Each call has fewer places.
use Rattle.std.proofs.Common.{length}
use Rattle.res_prover.proofs.links.+needed_at.Given as goal

abbrev pub decreases-needed_at : goal.decreases-needed_at
decreases-needed_at l = length l.others.now
