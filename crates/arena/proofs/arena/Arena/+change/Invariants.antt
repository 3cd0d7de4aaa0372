-- A walk goes down to parts with smaller numbers.
use Rattle.std.proofs.Common.{◌+◌, ◌*◌}
use Rattle.arena.proofs.arena.Arena.+change.Given as goal

abbrev pub decreases-change : goal.decreases-change
decreases-change l = 3 * l.of + 2

abbrev pub decreases-change_at : goal.decreases-change_at
decreases-change_at l = 3 * l.of + 1

abbrev pub decreases-change_parts : goal.decreases-change_parts
decreases-change_parts l = 3 * l.of
