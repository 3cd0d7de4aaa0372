-- Each call has one formula less.
use Rattle.std.proofs.Common.{length}
use Rattle.res_prover.proofs.choices.+push_choices.Given as goal

abbrev pub decreases-push_choices : goal.decreases-push_choices
decreases-push_choices l = length l.atoms.now
