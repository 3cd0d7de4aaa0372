-- The numbers get smaller.
use Rattle.std.proofs.Common.{◌+◌, ◌*◌}
use Rattle.arena_subst.proofs.tree_images.+images.Given as goal

abbrev pub decreases-substitute_in : goal.decreases-substitute_in
decreases-substitute_in l = 4 * l.proof + 3

abbrev pub decreases-image_once : goal.decreases-image_once
decreases-image_once l = 4 * l.proof + 2

abbrev pub decreases-image_over : goal.decreases-image_over
decreases-image_over l = 4 * l.proof + 1

abbrev pub decreases-images_below : goal.decreases-images_below
decreases-images_below l = 4 * l.above
