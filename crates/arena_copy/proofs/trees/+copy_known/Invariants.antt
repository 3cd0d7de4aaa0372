-- The numbers get smaller.
use Rattle.std.proofs.Common.{◌+◌, ◌*◌}
use Rattle.arena_copy.proofs.trees.+copy_known.Given as goal

abbrev pub decreases-copy_known : goal.decreases-copy_known
decreases-copy_known l = 2 * l.proof + 1

abbrev pub decreases-copy_premises : goal.decreases-copy_premises
decreases-copy_premises l = 2 * l.proof
