-- The trees have fewer nodes, or the instances.
use Rattle.std.proofs.Common.{◌≡◌, ◌≤◌, ◌+◌, ◌*◌, ◌++◌, drop}
use Rattle.herbrand_laws.specs.Herbrand.{tuples_in}
use Rattle.exp_tree.specs.Sizes.{exp_nodes, insts_nodes}
use Rattle.exp_tree.specs.Shown.{insts_of}
use Rattle.cut_intro.proofs.tuples.+tuples.Given as goal

abbrev pub decreases-tuples : goal.decreases-tuples
decreases-tuples l = 2 * exp_nodes l.exp.now

abbrev pub decreases-tuples_in : goal.decreases-tuples_in
decreases-tuples_in l = 2 * insts_nodes (insts_of l.instances.now) + 1

abbrev pub invariant-tuples_in-loop-instance : goal.invariant-tuples_in-loop-instance
invariant-tuples_in-loop-instance l =
    (l.list.items ++ tuples_in l.count (insts_of (drop l.instance-index l.instances)) ≡ tuples_in l.count (insts_of l.instances))
    × (insts_nodes (insts_of (drop l.instance-index l.instances)) ≤ insts_nodes (insts_of l.instances))
