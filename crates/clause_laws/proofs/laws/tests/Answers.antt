-- The laws are lemmas.
use Rattle.clause_laws.proofs.Searched.{subsumes-tested, tautology-tested}
use Rattle.clause_laws.proofs.Kept.{covered-tested}
use Rattle.clause_laws.proofs.KeptRounds.{closed_sound, closed_complete}
use Rattle.clause_laws.proofs.laws.tests.Goals as goal

pub returns-clause-subsumption : goal.returns-clause-subsumption
returns-clause-subsumption c = subsumes-tested

pub returns-clause-tautology : goal.returns-clause-tautology
returns-clause-tautology c = tautology-tested

pub returns-clause-cover : goal.returns-clause-cover
returns-clause-cover c = covered-tested

pub returns-clause-closed : goal.returns-clause-closed
returns-clause-closed c ks clauses = (closed_sound ks clauses, closed_complete ks clauses)
