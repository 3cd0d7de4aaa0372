use Rattle.text_tables.proofs.Readings.{found}
use Rattle.text_tables.proofs.formulas.FormulaTexts.find.Goals as goal

pub returns : goal.returns
returns c = found _ c.self.invariant c.args.text.now c.get.result c.get.ensures.value
