-- The laws are lemmas.
use Rattle.ground_laws.proofs.Clauses.{resolvent_false, false_without_left, false_without_right, false_at_start}
use Rattle.ground_laws.proofs.Decided.{model_of}
use Rattle.ground_laws.proofs.laws.false_clauses.Goals as goal

pub returns-clause-resolvent : goal.returns-clause-resolvent
returns-clause-resolvent c = resolvent_false

pub returns-clause-not_left : goal.returns-clause-not_left
returns-clause-not_left c = false_without_left

pub returns-clause-not_right : goal.returns-clause-not_right
returns-clause-not_right c = false_without_right

pub returns-clause-start : goal.returns-clause-start
returns-clause-start c = false_at_start

pub returns-clause-model : goal.returns-clause-model
returns-clause-model c = model_of
