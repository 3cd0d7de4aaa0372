-- The law is a lemma.
use Rattle.image_laws.proofs.StepLaws.{rigid_derived}
use Rattle.image_laws.proofs.laws.derived_proofs.Goals as goal

pub returns : goal.returns
returns c = rigid_derived
