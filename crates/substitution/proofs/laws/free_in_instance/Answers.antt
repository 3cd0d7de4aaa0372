-- The laws are lemmas.
use Rattle.substitution.proofs.FreeLaws.{free-inst_at, free_from-inst_at}
use Rattle.substitution.proofs.laws.free_in_instance.Goals as goal

pub returns-clause-kept : goal.returns-clause-kept
returns-clause-kept c = free-inst_at

pub returns-clause-origin : goal.returns-clause-origin
returns-clause-origin c = free_from-inst_at
