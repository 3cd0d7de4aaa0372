-- The laws are lemmas.
use Rattle.tptp_round_trip.proofs.Telling.{same_formula, same_term}
use Rattle.tptp_round_trip.proofs.laws.canonical_texts_tell_apart.Goals as goal

pub returns-clause-formula : goal.returns-clause-formula
returns-clause-formula c = same_formula

pub returns-clause-term : goal.returns-clause-term
returns-clause-term c = same_term
