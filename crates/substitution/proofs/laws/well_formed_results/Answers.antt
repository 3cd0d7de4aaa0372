-- The laws are lemmas.
use Rattle.substitution.proofs.InstanceFormed.{formed-inst_at, formed-bind_at}
use Rattle.substitution.proofs.ImageFormed.{formed-image, formed-image_term}
use Rattle.substitution.proofs.laws.well_formed_results.Goals as goal

pub returns-clause-instance : goal.returns-clause-instance
returns-clause-instance c = formed-inst_at

pub returns-clause-image : goal.returns-clause-image
returns-clause-image c = formed-image

pub returns-clause-image_term : goal.returns-clause-image_term
returns-clause-image_term c = formed-image_term

pub returns-clause-bound : goal.returns-clause-bound
returns-clause-bound c = formed-bind_at
