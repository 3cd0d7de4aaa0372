-- The laws are lemmas.
use Rattle.clause_laws.proofs.Atomic.{unifies-general, makes-listed, no_unifier}
use Rattle.clause_laws.proofs.laws.unifiers_of_atoms.Goals as goal

pub returns-clause-general : goal.returns-clause-general
returns-clause-general c = unifies-general

pub returns-clause-none : goal.returns-clause-none
returns-clause-none c = no_unifier

pub returns-clause-listed : goal.returns-clause-listed
returns-clause-listed c = makes-listed
