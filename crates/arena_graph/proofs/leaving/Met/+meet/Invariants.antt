-- The numbers get smaller.
use Rattle.std.proofs.Common.{◌+◌, ◌*◌}
use Rattle.arena_graph.proofs.leaving.Met.+meet.Given as goal

abbrev pub decreases-meet_tree : goal.decreases-meet_tree
decreases-meet_tree l = 2 * l.proof + 1

abbrev pub decreases-meet_below : goal.decreases-meet_below
decreases-meet_below l = 2 * l.above
