-- The law is a lemma.
use Rattle.substitution.proofs.ImageLaws.{image-inst_at}
use Rattle.substitution.proofs.laws.image_of_instance.Goals as goal

pub returns : goal.returns
returns c = image-inst_at
