-- The laws are lemmas.
use Rattle.tptp_read.proofs.FormedValues.{formula_value, term_value, variable_value}
use Rattle.tptp_read.proofs.Plain.{reading_plain}
use Rattle.tptp_read.proofs.laws.formed_readings.Goals as goal

pub returns : goal.returns
returns c = record { formula = formula_value; plain = reading_plain; term = term_value; variable = variable_value }
