-- The laws are lemmas.
use Rattle.extraction_laws.proofs.Extracted.{formulas_left, formulas_right}
use Rattle.extraction_laws.proofs.laws.formulas.Goals as goal

pub returns-clause-left : goal.returns-clause-left
returns-clause-left c = formulas_left

pub returns-clause-right : goal.returns-clause-right
returns-clause-right c = formulas_right
