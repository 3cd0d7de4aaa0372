-- The law is a lemma.
use Rattle.cut_laws.proofs.Reached.{least_reached}
use Rattle.cut_laws.proofs.laws.least.Goals as goal

pub returns : goal.returns
returns c = least_reached
