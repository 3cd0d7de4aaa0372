-- By the lemma on what is found.
use Rattle.interp_laws.proofs.Differences.{equal_found}
use Rattle.interp_laws.proofs.laws.differences.Goals as goal

pub returns : goal.returns
returns c = record { equal = equal_found }
