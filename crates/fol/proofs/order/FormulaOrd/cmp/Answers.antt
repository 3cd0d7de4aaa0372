-- Only equal formulas tie.
use Rattle.fol.proofs.OrderTies.{formula_order_same}
use Rattle.fol.proofs.order.FormulaOrd.cmp.Goals as goal

pub returns-clause-ties : goal.returns-clause-ties
returns-clause-ties c = formula_order_same c.args.self.now c.args.other.now c.compare_formulas.result c.compare_formulas.ensures
