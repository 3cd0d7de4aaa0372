-- The laws are lemmas.
use Rattle.image_laws.proofs.InputImages.{input-image, input-free}
use Rattle.image_laws.proofs.laws.input_clauses.Goals as goal

pub returns-clause-image : goal.returns-clause-image
returns-clause-image c = input-image

pub returns-clause-variables : goal.returns-clause-variables
returns-clause-variables c = input-free
