-- The trees have fewer nodes, or the instances, and those so far are entered.
use Rattle.std.proofs.Common.{◌≡◌, ◌+◌, ◌*◌, true, map, take, length}
use Rattle.std.specs.Prelude.{nat_lt}
use Rattle.std.specs.List.{list_all}
use Rattle.exp_tree.specs.Sizes.{exp_nodes, insts_nodes}
use Rattle.exp_tree.specs.Shown.{insts_of}
use Rattle.exp_tree.specs.FlatLists.{inst_at}
use Rattle.exp_tree.specs.Subtrees.{subtrees_in, with_each}
use Rattle.exp_tree.proofs.writing.+enter.Given as goal

abbrev pub decreases-enter : goal.decreases-enter
decreases-enter l = 4 * exp_nodes l.exp.now + 1

abbrev pub decreases-enter_below : goal.decreases-enter_below
decreases-enter_below l = 4 * exp_nodes l.exp.now

abbrev pub decreases-enter_both : goal.decreases-enter_both
decreases-enter_both l = 4 * (exp_nodes l.first.now + exp_nodes l.second.now) + 2

abbrev pub decreases-enter_weak : goal.decreases-enter_weak
decreases-enter_weak l = 4 * insts_nodes (insts_of l.instances.now) + 3

abbrev pub decreases-enter_strong : goal.decreases-enter_strong
decreases-enter_strong l = 4 * exp_nodes l.child.now + 2

abbrev pub decreases-enter_insts : goal.decreases-enter_insts
decreases-enter_insts l = 4 * insts_nodes (insts_of l.instances.now) + 2

abbrev pub invariant-enter_insts-loop-instance : goal.invariant-enter_insts-loop-instance
invariant-enter_insts-loop-instance l = record {
  trees : l.table ≡ with_each l.initial.table (subtrees_in (insts_of (take l.instance-index l.instances)));
  earlier : list_all (λ p. nat_lt p.1 (length l.table)) l.places.items ≡ true;
  insts : map (inst_at l.table) l.places.items ≡ take l.instance-index l.instances;
}
