-- The rest of a list is shorter.
use Rattle.std.proofs.Common.{length}
use Rattle.arena_interp.proofs.closing.+close_over.Given as goal

abbrev pub decreases-close_over : goal.decreases-close_over
decreases-close_over l = length l.vars.now
