-- The laws are lemmas.
use Rattle.substitution.proofs.ShapeLaws.{preds-inst_at, preds-image, preds-bind_at}
use Rattle.substitution.proofs.laws.same_predicates.Goals as goal

pub returns-clause-instance : goal.returns-clause-instance
returns-clause-instance c = preds-inst_at

pub returns-clause-image : goal.returns-clause-image
returns-clause-image c = preds-image

pub returns-clause-bound : goal.returns-clause-bound
returns-clause-bound c = preds-bind_at
