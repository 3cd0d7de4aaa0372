-- The law is a lemma.
use Rattle.proof_trees.proofs.Agreeing.{agree_tree}
use Rattle.proof_trees.proofs.laws.agreeing_maps_in_trees.Goals as goal

pub returns : goal.returns
returns c = agree_tree
