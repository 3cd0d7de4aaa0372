use Rattle.exp_tree.proofs.NodeWalk.{AreTreesSoFar}
use Rattle.exp_tree.proofs.reading_lists.read_trees.Given as goal

abbrev pub invariant-loop-place : goal.invariant-loop-place
invariant-loop-place l = AreTreesSoFar l.nodes l.place l.trees.items
