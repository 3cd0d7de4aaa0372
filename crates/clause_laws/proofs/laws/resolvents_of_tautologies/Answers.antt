-- The laws are lemmas.
use Rattle.clause_laws.proofs.Central.{full_first_tautology, full_second_tautology}
use Rattle.clause_laws.proofs.laws.resolvents_of_tautologies.Goals as goal

pub returns-clause-first : goal.returns-clause-first
returns-clause-first c = full_first_tautology

pub returns-clause-second : goal.returns-clause-second
returns-clause-second c = full_second_tautology
