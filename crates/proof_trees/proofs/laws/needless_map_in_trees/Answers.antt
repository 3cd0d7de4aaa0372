-- The laws are lemmas.
use Rattle.proof_trees.proofs.Agreeing.{kept_tree, empty_tree}
use Rattle.proof_trees.proofs.laws.needless_map_in_trees.Goals as goal

pub returns-clause-unchanged : goal.returns-clause-unchanged
returns-clause-unchanged c = kept_tree

pub returns-clause-empty : goal.returns-clause-empty
returns-clause-empty c = empty_tree
