-- The law is a lemma.
use Rattle.proof_trees.proofs.Conclusions.{row_larger}
use Rattle.proof_trees.proofs.laws.larger_conclusion.Goals as goal

pub returns : goal.returns
returns c = row_larger
