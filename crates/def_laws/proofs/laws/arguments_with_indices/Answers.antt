-- The laws are lemmas.
use Rattle.def_laws.proofs.Puts.{put-closed, inst-put, image-put}
use Rattle.def_laws.proofs.Untouched.{put-low}
use Rattle.def_laws.proofs.laws.arguments_with_indices.Goals as goal

pub returns-clause-closed : goal.returns-clause-closed
returns-clause-closed c = put-closed

pub returns-clause-untouched : goal.returns-clause-untouched
returns-clause-untouched c = put-low

pub returns-clause-instance : goal.returns-clause-instance
returns-clause-instance c = inst-put

pub returns-clause-image : goal.returns-clause-image
returns-clause-image c = image-put
