-- The trees have fewer nodes, or the instances.
use Rattle.std.proofs.Common.{◌+◌, ◌*◌, drop}
use Rattle.exp_tree.specs.Sizes.{exp_nodes, insts_nodes}
use Rattle.exp_tree.specs.Shown.{insts_of}
use Rattle.exp_tree.proofs.DeepFormulas.{AreJoined}
use Rattle.exp_tree.proofs.deep_formulas.+deep.Given as goal

abbrev pub decreases-deep_at : goal.decreases-deep_at
decreases-deep_at l = 2 * exp_nodes l.exp.now

abbrev pub decreases-deep_both : goal.decreases-deep_both
decreases-deep_both l = 2 * (exp_nodes l.first.now + exp_nodes l.second.now) + 1

abbrev pub decreases-deep_instances : goal.decreases-deep_instances
decreases-deep_instances l = 2 * insts_nodes (insts_of l.instances.now) + 1

abbrev pub invariant-deep_instances-loop-instance : goal.invariant-deep_instances-loop-instance
invariant-deep_instances-loop-instance l = AreJoined l.side l.front (insts_of (drop l.instance-index l.rest)) (insts_of l.fn.instances)
