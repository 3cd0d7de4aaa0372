-- The laws are lemmas.
use Rattle.std.proofs.Common.{Ok, Err}
use Rattle.tptp_read.proofs.Whole.{exact_formula, exact_term}
use Rattle.tptp_read.proofs.laws.readings.Goals as goal

pub returns : goal.returns
returns c = record {
  formula = λ bytes f. exact_formula bytes (Ok f);
  formula_fault = λ bytes e. exact_formula bytes (Err e);
  term = λ bytes t. exact_term bytes (Ok t);
  term_fault = λ bytes e. exact_term bytes (Err e);
}
