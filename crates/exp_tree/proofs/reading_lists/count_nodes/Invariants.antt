use Rattle.std.proofs.Common.{drop}
use Rattle.exp_tree.specs.Roots.{nodes_each}
use Rattle.exp_tree.proofs.Counting.{IsSumSoFar}
use Rattle.exp_tree.proofs.reading_lists.count_nodes.Given as goal

abbrev pub invariant-loop-tree : goal.invariant-loop-tree
invariant-loop-tree l = IsSumSoFar l.count (nodes_each (drop l.tree-index l.trees)) (nodes_each l.trees)
