-- The law is a lemma.
use Rattle.tptp_round_trip.proofs.RoundTrip.{few_variables}
use Rattle.tptp_round_trip.proofs.laws.few_variables_have_numbers_in_range.Goals as goal

pub returns : goal.returns
returns c = few_variables
