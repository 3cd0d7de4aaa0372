-- The laws are lemmas.
use Rattle.def_laws.proofs.Lifts.{lifted-none, lifted-lifted, lifted-closed_terms}
use Rattle.def_laws.proofs.laws.lifting.Goals as goal

pub returns-clause-none : goal.returns-clause-none
returns-clause-none c = lifted-none

pub returns-clause-in_a_row : goal.returns-clause-in_a_row
returns-clause-in_a_row c = lifted-lifted

pub returns-clause-closed : goal.returns-clause-closed
returns-clause-closed c = lifted-closed_terms
