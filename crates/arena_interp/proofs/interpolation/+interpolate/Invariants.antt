-- The trees get less high.
use Rattle.std.proofs.Common.{◌+◌, ◌*◌}
use Rattle.proof_trees.specs.Shapes.{height}
use Rattle.arena_cells.specs.Standing.{tree_at}
use Rattle.arena_interp.proofs.interpolation.+interpolate.Given as goal

abbrev pub decreases-interpolate_at : goal.decreases-interpolate_at
decreases-interpolate_at l = 4 * height (tree_at l.arena.now l.partition.proof) + 3

abbrev pub decreases-interpolate_root : goal.decreases-interpolate_root
decreases-interpolate_root l = 4 * height (tree_at l.arena.now l.partition.proof) + 2

abbrev pub decreases-interpolate_weakened : goal.decreases-interpolate_weakened
decreases-interpolate_weakened l = 4 * height (tree_at l.arena.now l.partition.proof) + 1

abbrev pub decreases-interpolate_main : goal.decreases-interpolate_main
decreases-interpolate_main l = 4 * height (tree_at l.arena.now l.partition.proof) + 1

abbrev pub decreases-interpolate_one : goal.decreases-interpolate_one
decreases-interpolate_one l = 4 * height (tree_at l.arena.now l.partition.proof)

abbrev pub decreases-interpolate_two : goal.decreases-interpolate_two
decreases-interpolate_two l = 4 * height (tree_at l.arena.now l.partition.proof)
