-- The numbers of the formulas get smaller.
use Rattle.std.proofs.Common.{◌+◌, ◌*◌}
use Rattle.arena_refutations.proofs.input_trees.+over_literals.Given as goal

abbrev pub decreases-over_literals : goal.decreases-over_literals
decreases-over_literals l = 2 * l.matrix

abbrev pub decreases-over_part : goal.decreases-over_part
decreases-over_part l = 2 * l.part + 1
