-- Each call has one formula less.
use Rattle.std.proofs.Common.{length}
use Rattle.res_prover.proofs.choices.+push_extensions.Given as goal

abbrev pub decreases-push_extensions : goal.decreases-push_extensions
decreases-push_extensions l = length l.others.now
