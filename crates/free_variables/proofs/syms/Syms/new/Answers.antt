-- The list with no element shows the set with none.
use Rattle.fol.specs.Order.{pred_cmp}
use Rattle.finite.proofs.Finite.{of_rising-empty}
use Rattle.free_variables.proofs.syms.Syms.new.Goals as goal

pub returns : goal.returns
returns c = rw c.new.ensures.items (of_rising-empty pred_cmp)
