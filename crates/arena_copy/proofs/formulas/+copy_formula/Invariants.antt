-- The numbers get smaller.
use Rattle.std.proofs.Common.{◌+◌, ◌*◌}
use Rattle.arena_copy.proofs.formulas.+copy_formula.Given as goal

abbrev pub decreases-copy_formula : goal.decreases-copy_formula
decreases-copy_formula l = 3 * l.formula + 2

abbrev pub decreases-copy_new_formula : goal.decreases-copy_new_formula
decreases-copy_new_formula l = 3 * l.formula + 1

abbrev pub decreases-copy_two : goal.decreases-copy_two
decreases-copy_two l = 3 * l.above
