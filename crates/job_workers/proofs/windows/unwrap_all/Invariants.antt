use Rattle.std.proofs.Common.{◌≡◌, ◌+◌, ◌≤◌, ◌++◌, map, length, vec_capacity}
use Rattle.std.specs.Prelude.{Some, IsSome}
use Rattle.std.specs.List.{All}
use Rattle.std.specs.Vec.Iter.{into_iter_items}
use Rattle.job_workers.proofs.windows.unwrap_all.Given as goal

abbrev pub invariant-loop-slot : goal.invariant-loop-slot
invariant-loop-slot g l =
    (goal.iterator-loop-slot g).can_next l.slot-iterator
    × (goal.iterator-loop-slot g).is_finite l.slot-iterator
    × (map Some l.answers.items ++ into_iter_items l.slot-iterator ≡ l.fn.slots.items)
    × All IsSome (into_iter_items l.slot-iterator)
    × (length l.answers.items + length (into_iter_items l.slot-iterator) ≤ vec_capacity l.answers)
