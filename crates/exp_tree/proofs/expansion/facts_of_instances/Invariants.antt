use Rattle.std.proofs.Common.{drop}
use Rattle.exp_tree.specs.Shown.{insts_of}
use Rattle.exp_tree.proofs.InstanceFacts.{AreSoFar}
use Rattle.exp_tree.proofs.expansion.facts_of_instances.Given as goal

abbrev pub invariant-loop-instance : goal.invariant-loop-instance
invariant-loop-instance l = AreSoFar l.facts (insts_of (drop l.instance-index l.instances)) (insts_of l.instances)
