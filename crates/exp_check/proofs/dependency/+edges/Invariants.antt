-- The trees have fewer nodes, or the instances.
use Rattle.std.proofs.Common.{◌≤◌, ◌+◌, ◌*◌, take, drop}
use Rattle.finite.specs.Finite as set
use Rattle.expansion_laws.specs.Dependency.{is_above_in}
use Rattle.exp_tree.specs.Sizes.{exp_nodes, insts_nodes}
use Rattle.exp_tree.specs.Shown.{insts_of}
use Rattle.exp_check.specs.Edges.{IsExtended}
use Rattle.exp_check.proofs.dependency.+edges.Given as goal

abbrev pub decreases-push_edges : goal.decreases-push_edges
decreases-push_edges l = 2 * exp_nodes l.exp.now

abbrev pub decreases-push_edges_in : goal.decreases-push_edges_in
decreases-push_edges_in l = 2 * insts_nodes (insts_of l.instances.now) + 1

abbrev pub invariant-push_edges_in-loop-instance : goal.invariant-push_edges_in-loop-instance
invariant-push_edges_in-loop-instance l =
    IsExtended l.initial.edges.items l.edges.items (λ y z. is_above_in y z (set.has l.above y) (insts_of (take l.instance-index l.instances)))
    × (insts_nodes (insts_of (drop l.instance-index l.instances)) ≤ insts_nodes (insts_of l.instances))
