-- The trees have fewer nodes, or the instances.
use Rattle.std.proofs.Common.{◌≤◌, ◌+◌, ◌*◌, drop}
use Rattle.exp_tree.specs.Instances.{instances_in}
use Rattle.exp_tree.specs.Sizes.{exp_nodes, insts_nodes}
use Rattle.exp_tree.specs.Shown.{insts_of}
use Rattle.exp_tree.proofs.Counting.{IsSumSoFar}
use Rattle.exp_tree.proofs.counts.+instances.Given as goal

abbrev pub decreases-count_in_tree : goal.decreases-count_in_tree
decreases-count_in_tree l = 2 * exp_nodes l.exp.now

abbrev pub decreases-count_in_list : goal.decreases-count_in_list
decreases-count_in_list l = 2 * insts_nodes (insts_of l.children.now) + 1

abbrev pub invariant-count_in_list-loop-instance : goal.invariant-count_in_list-loop-instance
invariant-count_in_list-loop-instance l =
    IsSumSoFar l.count (instances_in (insts_of (drop l.instance-index l.children))) (instances_in (insts_of l.children))
    × (insts_nodes (insts_of (drop l.instance-index l.children)) ≤ insts_nodes (insts_of l.children))
