-- The law is a lemma.
use Rattle.cut_laws.proofs.TreesEnd.{all_end}
use Rattle.cut_laws.proofs.laws.hauptsatz.Goals as goal

pub returns : goal.returns
returns c = all_end
