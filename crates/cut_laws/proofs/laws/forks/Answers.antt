-- The laws are lemmas.
use Rattle.cut_laws.proofs.Forks.{both_forked, premises_first}
use Rattle.cut_laws.proofs.laws.forks.Goals as goal

pub returns-clause-both : goal.returns-clause-both
returns-clause-both c = both_forked

pub returns-clause-premises_first : goal.returns-clause-premises_first
returns-clause-premises_first c = premises_first
