-- The list with no formula shows the set with none.
use Rattle.fol.specs.Order.{formula_cmp}
use Rattle.finite.proofs.Finite.{of_rising-empty}
use Rattle.lk_rules.proofs.formulas.Formulas.new.Goals as goal

pub returns : goal.returns
returns c = rw c.new.ensures (of_rising-empty formula_cmp)
