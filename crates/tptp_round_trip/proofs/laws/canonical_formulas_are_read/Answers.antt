-- The laws are lemmas.
use Rattle.tptp_round_trip.proofs.RoundTrip.{formula_is_read, formula_fits, formula_only}
use Rattle.tptp_round_trip.proofs.laws.canonical_formulas_are_read.Goals as goal

pub returns-clause-read : goal.returns-clause-read
returns-clause-read c = formula_is_read

pub returns-clause-within : goal.returns-clause-within
returns-clause-within c = formula_fits

pub returns-clause-only : goal.returns-clause-only
returns-clause-only c = formula_only
