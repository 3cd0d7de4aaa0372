-- The law is a lemma.
use Rattle.merge_laws.proofs.TwoPremises.{merged_extraction}
use Rattle.merge_laws.proofs.laws.extractions.Goals as goal

pub returns : goal.returns
returns c = merged_extraction
