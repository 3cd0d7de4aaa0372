use Rattle.fol.specs.Syntax.{Formula}
use Rattle.std.proofs.Common.{subst}
use Rattle.tptp_read.specs.Given.{GivesText}
use Rattle.text_tables.proofs.Readings.{one_reading, one_fault}
use Rattle.text_tables.proofs.formulas.FormulaTexts.read.Goals as goal

pub returns-clause-only : goal.returns-clause-only
returns-clause-only c = λ f is. subst (GivesText (λ (g : Formula). g) c.find_or_read.result) ((c.readings.ensures.formula c.args.text.now f).1 is) c.find_or_read.ensures

pub returns-clause-first : goal.returns-clause-first
returns-clause-first c = λ e is. subst (GivesText (λ (g : Formula). g) c.find_or_read.result) ((c.readings.ensures.formula_fault c.args.text.now e).1 is) c.find_or_read.ensures

pub returns-clause-one : goal.returns-clause-one
returns-clause-one c = λ f g is too. one_reading _ f g ((c.readings.ensures.formula c.args.text.now f).1 is) ((c.readings.ensures.formula c.args.text.now g).1 too)

pub returns-clause-one_fault : goal.returns-clause-one_fault
returns-clause-one_fault c = λ d e is too. one_fault _ d e ((c.readings.ensures.formula_fault c.args.text.now d).1 is) ((c.readings.ensures.formula_fault c.args.text.now e).1 too)
