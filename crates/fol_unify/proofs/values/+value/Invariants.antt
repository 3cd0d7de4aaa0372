-- Each call that goes on from a class that was not looked at opens it.
use Rattle.std.proofs.Common.{◌+◌, ◌*◌}
use Rattle.fol_unify.specs.Values.{news}
use Rattle.fol_unify.proofs.values.+value.Given as goal

abbrev pub decreases-value_of : goal.decreases-value_of
decreases-value_of l = 2 * news l.marks.now.items + 1

abbrev pub decreases-root_value : goal.decreases-root_value
decreases-root_value l = 2 * news l.marks.now.items + 2
