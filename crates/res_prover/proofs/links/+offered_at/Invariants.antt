-- Each call has fewer places.
use Rattle.std.proofs.Common.{length}
use Rattle.res_prover.proofs.links.+offered_at.Given as goal

abbrev pub decreases-offered_at : goal.decreases-offered_at
decreases-offered_at l = length l.others.now
