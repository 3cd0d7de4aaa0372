-- Each call has fewer atoms.
use Rattle.std.proofs.Common.{length}
use Rattle.res_prover.proofs.links.+push_side.Given as goal

abbrev pub decreases-push_side : goal.decreases-push_side
decreases-push_side l = length l.atoms.now
