-- There are fewer variables.
use Rattle.std.proofs.Common.{length}
use Rattle.arena_refutations.proofs.proving.+composed.Given as goal

abbrev pub decreases-composed : goal.decreases-composed
decreases-composed l = length l.vars.now
