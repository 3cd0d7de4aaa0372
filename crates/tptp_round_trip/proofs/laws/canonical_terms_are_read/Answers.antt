-- The laws are lemmas.
use Rattle.tptp_round_trip.proofs.RoundTrip.{term_is_read, term_fits, term_only}
use Rattle.tptp_round_trip.proofs.laws.canonical_terms_are_read.Goals as goal

pub returns-clause-read : goal.returns-clause-read
returns-clause-read c = term_is_read

pub returns-clause-within : goal.returns-clause-within
returns-clause-within c = term_fits

pub returns-clause-only : goal.returns-clause-only
returns-clause-only c = term_only
