-- The numbers get smaller.
use Rattle.std.proofs.Common.{◌+◌, ◌*◌}
use Rattle.arena_flat.proofs.trees.+flatten_known.Given as goal

abbrev pub decreases-flatten_known : goal.decreases-flatten_known
decreases-flatten_known l = 2 * l.proof + 1

abbrev pub decreases-flatten_premises : goal.decreases-flatten_premises
decreases-flatten_premises l = 2 * l.proof
