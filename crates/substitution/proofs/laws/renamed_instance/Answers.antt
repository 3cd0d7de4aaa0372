-- The law is a lemma.
use Rattle.substitution.proofs.ImageLaws.{rename}
use Rattle.substitution.proofs.laws.renamed_instance.Goals as goal

pub returns : goal.returns
returns c = rename
