-- The trees get smaller, and what is merged so far goes on with the merge of the rests.
use Rattle.std.proofs.Common.{◌≡◌, ◌+◌, ◌-◌, ◌*◌, ◌≤◌, length, drop}
use Rattle.exp_tree.specs.Sizes.{exp_nodes, insts_nodes}
use Rattle.exp_tree.specs.Shown.{insts_of}
use Rattle.exp_tree.specs.Merging.{merged_in, followed}
use Rattle.exp_tree.proofs.merging.+merge.Given as goal

abbrev pub decreases-merge : goal.decreases-merge
decreases-merge l = 4 * exp_nodes l.first.now

abbrev pub decreases-merge_not : goal.decreases-merge_not
decreases-merge_not l = 4 * exp_nodes l.body.now + 1

abbrev pub decreases-merge_and : goal.decreases-merge_and
decreases-merge_and l = 4 * (exp_nodes l.one.now + exp_nodes l.other.now) + 1

abbrev pub decreases-merge_or : goal.decreases-merge_or
decreases-merge_or l = 4 * (exp_nodes l.one.now + exp_nodes l.other.now) + 1

abbrev pub decreases-merge_imp : goal.decreases-merge_imp
decreases-merge_imp l = 4 * (exp_nodes l.one.now + exp_nodes l.other.now) + 1

abbrev pub decreases-merge_weak : goal.decreases-merge_weak
decreases-merge_weak l = 4 * insts_nodes (insts_of l.instances.now) + 3

abbrev pub decreases-merge_strong : goal.decreases-merge_strong
decreases-merge_strong l = 4 * exp_nodes l.child.now + 1

abbrev pub decreases-merge_instances : goal.decreases-merge_instances
decreases-merge_instances l = 4 * insts_nodes (insts_of l.some.now) + 2

abbrev pub decreases-push_next : goal.decreases-push_next
decreases-push_next l = 4 * insts_nodes (insts_of l.some.now) + 1

abbrev pub invariant-merge_instances-loop-i : goal.invariant-merge_instances-loop-i
invariant-merge_instances-loop-i l = record {
  i_in : l.i ≤ length l.some;
  j_in : l.j ≤ length l.others;
  so_far : followed l.list.items (merged_in (insts_of (drop l.i l.some)) (insts_of (drop l.j l.others))) ≡ merged_in (insts_of l.some) (insts_of l.others);
}

abbrev pub decreases-merge_instances-loop-i : goal.decreases-merge_instances-loop-i
decreases-merge_instances-loop-i l = (length l.some - l.i) + (length l.others - l.j)
