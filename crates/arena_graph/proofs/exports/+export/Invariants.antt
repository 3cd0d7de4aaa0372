-- The numbers get smaller.
use Rattle.std.proofs.Common.{◌+◌, ◌*◌}
use Rattle.arena_graph.proofs.exports.+export.Given as goal

abbrev pub decreases-export_tree : goal.decreases-export_tree
decreases-export_tree g l = 3 * l.proof + 2

abbrev pub decreases-export_new : goal.decreases-export_new
decreases-export_new g l = 3 * l.proof + 1

abbrev pub decreases-export_below : goal.decreases-export_below
decreases-export_below g l = 3 * l.above
