-- The trees have fewer nodes, or the instances.
use Rattle.std.proofs.Common.{◌≡◌, ◌≤◌, ◌+◌, ◌*◌, ◌++◌, drop}
use Rattle.expansion_laws.specs.Dependency.{strongs_in}
use Rattle.exp_tree.specs.Sizes.{exp_nodes, insts_nodes}
use Rattle.exp_tree.specs.Shown.{insts_of}
use Rattle.exp_tree.proofs.sequent_formulas.+strongs.Given as goal

abbrev pub decreases-push_strongs : goal.decreases-push_strongs
decreases-push_strongs l = 2 * exp_nodes l.exp.now

abbrev pub decreases-push_strongs_in : goal.decreases-push_strongs_in
decreases-push_strongs_in l = 2 * insts_nodes (insts_of l.instances.now) + 1

abbrev pub invariant-push_strongs_in-loop-instance : goal.invariant-push_strongs_in-loop-instance
invariant-push_strongs_in-loop-instance l =
    (l.list.items ++ strongs_in (insts_of (drop l.instance-index l.instances)) ≡ l.initial.list.items ++ strongs_in (insts_of l.instances))
    × (insts_nodes (insts_of (drop l.instance-index l.instances)) ≤ insts_nodes (insts_of l.instances))
