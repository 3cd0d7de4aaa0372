use Rattle.std.proofs.Common.{drop}
use Rattle.exp_tree.specs.Instances.{instances_each}
use Rattle.exp_tree.proofs.Counting.{IsSumSoFar}
use Rattle.exp_tree.proofs.counts.count_in_trees.Given as goal

abbrev pub invariant-loop-tree : goal.invariant-loop-tree
invariant-loop-tree l = IsSumSoFar l.count (instances_each (drop l.tree-index l.trees)) (instances_each l.trees)
