-- The laws are lemmas.
use Rattle.ground_laws.proofs.Clauses.{resolvent_holds, empty_fails}
use Rattle.ground_laws.proofs.Reached.{never_both, never_refuted}
use Rattle.ground_laws.proofs.laws.never_both.Goals as goal

pub returns-clause-both : goal.returns-clause-both
returns-clause-both c = never_both

pub returns-clause-satisfied : goal.returns-clause-satisfied
returns-clause-satisfied c = never_refuted

pub returns-clause-resolvents : goal.returns-clause-resolvents
returns-clause-resolvents c = resolvent_holds

pub returns-clause-empty : goal.returns-clause-empty
returns-clause-empty c = empty_fails
