-- One variable fewer each time.
use Rattle.std.proofs.Common.{length}
use Rattle.arena_refutations.proofs.planning.+image_vars.Given as goal

abbrev pub decreases-image_vars : goal.decreases-image_vars
decreases-image_vars l = length l.vars.now
