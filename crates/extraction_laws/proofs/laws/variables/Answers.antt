-- The laws are lemmas.
use Rattle.extraction_laws.proofs.Variables.{nth_out, nth_rises, nth_next}
use Rattle.extraction_laws.proofs.laws.variables.Goals as goal

pub returns-clause-outside : goal.returns-clause-outside
returns-clause-outside c = nth_out

pub returns-clause-rise : goal.returns-clause-rise
returns-clause-rise c = nth_rises

pub returns-clause-next : goal.returns-clause-next
returns-clause-next c = nth_next
