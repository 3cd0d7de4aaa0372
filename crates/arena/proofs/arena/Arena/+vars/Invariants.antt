-- A walk goes down to parts with smaller numbers.
use Rattle.std.proofs.Common.{◌+◌, ◌*◌}
use Rattle.arena.proofs.arena.Arena.+vars.Given as goal

abbrev pub decreases-vars : goal.decreases-vars
decreases-vars l = 3 * l.of + 2

abbrev pub decreases-vars_at : goal.decreases-vars_at
decreases-vars_at l = 3 * l.of + 1

abbrev pub decreases-vars_below : goal.decreases-vars_below
decreases-vars_below l = 3 * l.of
