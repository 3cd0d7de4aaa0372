-- The law is a lemma.
use Rattle.substitution.proofs.ImageLaws.{away}
use Rattle.substitution.proofs.laws.needless_binding.Goals as goal

pub returns : goal.returns
returns c = away
