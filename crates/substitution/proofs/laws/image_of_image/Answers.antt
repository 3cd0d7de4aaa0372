-- The laws are lemmas.
use Rattle.substitution.proofs.ImageLaws.{image-image, image-image_term}
use Rattle.substitution.proofs.laws.image_of_image.Goals as goal

pub returns-clause-formula : goal.returns-clause-formula
returns-clause-formula c = image-image

pub returns-clause-term : goal.returns-clause-term
returns-clause-term c = image-image_term
