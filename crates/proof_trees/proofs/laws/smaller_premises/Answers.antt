-- The law is a lemma.
use Rattle.proof_trees.proofs.Conclusions.{row_smaller}
use Rattle.proof_trees.proofs.laws.smaller_premises.Goals as goal

pub returns : goal.returns
returns c = row_smaller
