-- The law is a lemma.
use Rattle.substitution.proofs.ImageLaws.{agree}
use Rattle.substitution.proofs.laws.agreeing_maps.Goals as goal

pub returns : goal.returns
returns c = agree
