-- The numbers get smaller.
use Rattle.std.proofs.Common.{◌+◌, ◌*◌}
use Rattle.arena_flat.proofs.plain.+is_plain_tree.Given as goal

abbrev pub decreases-is_plain_tree : goal.decreases-is_plain_tree
decreases-is_plain_tree l = 2 * l.proof + 1

abbrev pub decreases-are_plain_trees : goal.decreases-are_plain_trees
decreases-are_plain_trees l = 2 * l.above
