-- The laws are lemmas.
use Rattle.substitution.proofs.BindLaws.{inst-bind_at, inst-bind_itself}
use Rattle.substitution.proofs.laws.instance_of_bound.Goals as goal

pub returns-clause-other_term : goal.returns-clause-other_term
returns-clause-other_term c = inst-bind_at

pub returns-clause-same_variable : goal.returns-clause-same_variable
returns-clause-same_variable c = inst-bind_itself
