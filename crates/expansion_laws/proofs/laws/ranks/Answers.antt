-- The law is a lemma.
use Rattle.expansion_laws.proofs.Ranks.{acyclic_ranked}
use Rattle.expansion_laws.proofs.laws.ranks.Goals as goal

pub returns : goal.returns
returns c = acyclic_ranked
