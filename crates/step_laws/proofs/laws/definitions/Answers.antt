-- By the lemma on what is found.
use Rattle.step_laws.proofs.Found.{plain_found}
use Rattle.step_laws.proofs.laws.definitions.Goals as goal

pub returns : goal.returns
returns c = plain_found
