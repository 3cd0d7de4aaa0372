-- The numbers get smaller.
use Rattle.std.proofs.Common.{◌+◌, ◌*◌}
use Rattle.arena_subst.proofs.tree_variables.+tree_vars.Given as goal

abbrev pub decreases-tree_vars : goal.decreases-tree_vars
decreases-tree_vars l = 2 * l.proof + 1

abbrev pub decreases-vars_below : goal.decreases-vars_below
decreases-vars_below l = 2 * l.above
