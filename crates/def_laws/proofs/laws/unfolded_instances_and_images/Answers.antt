-- The laws are lemmas.
use Rattle.def_laws.proofs.FlatLaws.{flat-inst_at, flat-image}
use Rattle.def_laws.proofs.laws.unfolded_instances_and_images.Goals as goal

pub returns-clause-instance : goal.returns-clause-instance
returns-clause-instance c = flat-inst_at

pub returns-clause-image : goal.returns-clause-image
returns-clause-image c = flat-image
