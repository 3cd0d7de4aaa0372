use Rattle.std.proofs.Common.{◌+◌, ◌≤◌, length, vec_capacity}
use Rattle.std.specs.Vec.Iter.{into_iter_items}
use Rattle.job_windows.proofs.Merging.{IsMerging}
use Rattle.job_windows.proofs.seats.dues.Given as goal

abbrev pub invariant-loop-seat : goal.invariant-loop-seat
invariant-loop-seat l =
    goal.iterator-loop-seat.can_next l.seat-iterator
    × goal.iterator-loop-seat.is_finite l.seat-iterator
    × IsMerging l.fn.seats.items l.fn.answers.items (into_iter_items l.seat-iterator) l.answers.items l.room.items
    × (length l.room.items + length (into_iter_items l.seat-iterator) ≤ vec_capacity l.room)
