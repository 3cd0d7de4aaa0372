-- The laws are lemmas.
use Rattle.substitution.proofs.ClosedLaws.{closed_of, closed_term_of}
use Rattle.substitution.proofs.laws.well_formed_is_closed.Goals as goal

pub returns-clause-formula : goal.returns-clause-formula
returns-clause-formula c = closed_of

pub returns-clause-term : goal.returns-clause-term
returns-clause-term c = closed_term_of
