-- The laws are lemmas.
use Rattle.substitution.proofs.ShapeLaws.{body-inst_at, body-image, body-bind_at}
use Rattle.substitution.proofs.laws.same_bodies.Goals as goal

pub returns-clause-instance : goal.returns-clause-instance
returns-clause-instance c = body-inst_at

pub returns-clause-image : goal.returns-clause-image
returns-clause-image c = body-image

pub returns-clause-bound : goal.returns-clause-bound
returns-clause-bound c = body-bind_at
