-- The laws are lemmas.
use Rattle.substitution.proofs.Unfoldings.{unf-image, unf-inst}
use Rattle.substitution.proofs.laws.unfolding_of_image.Goals as goal

pub returns-clause-image : goal.returns-clause-image
returns-clause-image c = unf-image

pub returns-clause-instance : goal.returns-clause-instance
returns-clause-instance c = unf-inst
