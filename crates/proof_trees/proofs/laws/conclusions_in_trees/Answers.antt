-- The laws are lemmas.
use Rattle.proof_trees.proofs.FormedConclusions.{formed_conclusions}
use Rattle.proof_trees.proofs.WithoutBodies.{plain_nodes}
use Rattle.proof_trees.proofs.laws.conclusions_in_trees.Goals as goal

pub returns-clause-formed : goal.returns-clause-formed
returns-clause-formed c = formed_conclusions

pub returns-clause-without_bodies : goal.returns-clause-without_bodies
returns-clause-without_bodies c = plain_nodes
