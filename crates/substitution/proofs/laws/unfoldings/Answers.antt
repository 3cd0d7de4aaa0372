-- The laws are lemmas.
use Rattle.substitution.proofs.Unfoldings.{formed-unf, grade-unf, free-unf}
use Rattle.substitution.proofs.laws.unfoldings.Goals as goal

pub returns-clause-formed : goal.returns-clause-formed
returns-clause-formed c = formed-unf

pub returns-clause-grade : goal.returns-clause-grade
returns-clause-grade c = grade-unf

pub returns-clause-free : goal.returns-clause-free
returns-clause-free c = free-unf
