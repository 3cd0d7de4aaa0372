-- The laws are lemmas.
use Rattle.substitution.proofs.ShapeLaws.{grade-inst_at, grade-image, grade-bind_at}
use Rattle.substitution.proofs.laws.same_grade.Goals as goal

pub returns-clause-instance : goal.returns-clause-instance
returns-clause-instance c = grade-inst_at

pub returns-clause-image : goal.returns-clause-image
returns-clause-image c = grade-image

pub returns-clause-bound : goal.returns-clause-bound
returns-clause-bound c = grade-bind_at
