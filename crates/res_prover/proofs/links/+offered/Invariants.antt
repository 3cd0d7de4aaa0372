-- Each call has fewer places.
use Rattle.std.proofs.Common.{length}
use Rattle.res_prover.proofs.links.+offered.Given as goal

abbrev pub decreases-offered : goal.decreases-offered
decreases-offered l = length l.each.now
