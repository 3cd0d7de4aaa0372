-- There are fewer variables.
use Rattle.std.proofs.Common.{length}
use Rattle.arena_refutations.proofs.input_trees.+over_images.Given as goal

abbrev pub decreases-over_images : goal.decreases-over_images
decreases-over_images l = length l.vars.now
