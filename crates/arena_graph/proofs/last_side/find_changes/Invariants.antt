-- The changes so far.
use Rattle.std.proofs.Common.{◌+◌, ◌-◌, ◌≤◌, length, take}
use Rattle.arena_graph.specs.Changes.{AreChanges}
use Rattle.arena_graph.proofs.last_side.find_changes.Given as goal

abbrev pub invariant-loop-i : goal.invariant-loop-i
invariant-loop-i l = record {
  so_far : AreChanges l.changes.items (take l.i l.old) (take l.j l.new);
  old_left : l.i ≤ length l.old;
  new_left : l.j ≤ length l.new;
}

abbrev pub decreases-loop-i : goal.decreases-loop-i
decreases-loop-i l = (length l.old - l.i) + (length l.new - l.j)
