-- The numbers get smaller.
use Rattle.std.proofs.Common.{◌+◌, ◌*◌}
use Rattle.arena_flat.proofs.formulas.+flatten_formula.Given as goal

abbrev pub decreases-flatten_formula : goal.decreases-flatten_formula
decreases-flatten_formula l = 3 * l.formula + 2

abbrev pub decreases-flatten_new : goal.decreases-flatten_new
decreases-flatten_new l = 3 * l.formula + 1

abbrev pub decreases-flatten_two : goal.decreases-flatten_two
decreases-flatten_two l = 3 * l.above
