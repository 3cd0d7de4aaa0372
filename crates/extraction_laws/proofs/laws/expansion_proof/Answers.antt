-- The law is a lemma.
use Rattle.extraction_laws.proofs.Extracted.{expansion_proof}
use Rattle.extraction_laws.proofs.laws.expansion_proof.Goals as goal

pub returns : goal.returns
returns c = expansion_proof
