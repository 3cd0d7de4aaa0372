-- The laws are lemmas.
use Rattle.proof_trees.specs.Trees.{node, none, more}
use Rattle.proof_trees.proofs.WithoutBodies.{plain_nodes}
use Rattle.merge_laws.proofs.TwoPremises.{united-premises, merged-premises}
use Rattle.merge_laws.proofs.laws.inferences.Goals as goal

pub returns-clause-marks : goal.returns-clause-marks
returns-clause-marks c = united-premises

pub returns-clause-trees : goal.returns-clause-trees
returns-clause-trees c vs r s p q m d x a same valid free bodies closed fits reached h =
    merged-premises vs r s p q m d x same valid free (plain_nodes (node r s (more p (more q none))) valid free bodies) closed fits reached h a
