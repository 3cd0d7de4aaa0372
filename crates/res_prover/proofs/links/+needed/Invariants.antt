-- Each call has fewer places.
use Rattle.std.proofs.Common.{length}
use Rattle.res_prover.proofs.links.+needed.Given as goal

abbrev pub decreases-needed : goal.decreases-needed
decreases-needed l = length l.each.now
