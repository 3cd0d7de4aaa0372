-- The laws are lemmas.
use Rattle.clause_laws.proofs.Features.{predicates_subsumed, partners}
use Rattle.clause_laws.proofs.laws.indexes.Goals as goal

pub returns-clause-subsumption : goal.returns-clause-subsumption
returns-clause-subsumption c = predicates_subsumed

pub returns-clause-partners : goal.returns-clause-partners
returns-clause-partners c = partners
