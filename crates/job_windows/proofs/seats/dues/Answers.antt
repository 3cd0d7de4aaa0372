use Rattle.std.proofs.Common.{List, length, ap, subst, arith}
use Rattle.std.specs.Vec.Iter.{into_iter_items}
use Rattle.std.proofs.lemmas.List.{length_push}
use Rattle.job_windows.specs.declared.seats.Seat.{Seat}
use Rattle.job_windows.proofs.Merging.{IsMerging, merging_more}
use Rattle.job_windows.proofs.seats.dues.Goals as goal

pub loop-seat-preserved : goal.loop-seat-preserved
loop-seat-preserved c =
    let before = c.loop-seat.invariant in
    let taken = c.in-Some.ensures.steps.0 in
    let seats = c.args.seats.items in
    let all = c.args.answers.items in
    let made = c.loop-seat.room.items in
    let rest = into_iter_items c.next.new.self in (
      tt,
      tt,
      rw c.push_reserved.ensures.items (merging_more seats all c.in-Some.seat rest c.loop-seat.answers.items c.due_of.new.answers.items made c.due_of.result
          (subst (λ (ss : List Seat). IsMerging seats all ss c.loop-seat.answers.items made) taken before.2) c.due_of.ensures),
      omega (arith, before.3, ap length taken, ap length c.push_reserved.ensures.items, length_push made c.due_of.result, c.push_reserved.ensures.capacity),
    )
