-- The laws are lemmas.
use Rattle.def_laws.proofs.InstanceLaws.{put_instances}
use Rattle.def_laws.proofs.FlatUnfoldings.{unf_instances}
use Rattle.def_laws.proofs.laws.one_instance_after_the_other.Goals as goal

pub returns-clause-arguments : goal.returns-clause-arguments
returns-clause-arguments c = put_instances

pub returns-clause-unfolding : goal.returns-clause-unfolding
returns-clause-unfolding c = unf_instances
