use Rattle.std.proofs.Common.{length, ap, arith}
use Rattle.std.specs.Prelude.{IsSome}
use Rattle.std.specs.Vec.Iter.{into_iter_items}
use Rattle.std.proofs.lemmas.List.{length_push}
use Rattle.std.proofs.lemmas.List.Elements.{All-rest}
use Rattle.job_workers.proofs.Filling.{unwrapped}
use Rattle.job_workers.proofs.windows.unwrap_all.Goals as goal

pub loop-slot-preserved : goal.loop-slot-preserved
loop-slot-preserved g c =
    let before = c.loop-slot.invariant in
    let taken = c.in-Some.ensures.steps.0 in
    let left = into_iter_items c.loop-slot.slot-iterator in
    let rest = into_iter_items c.next.new.self in (
      tt,
      tt,
      rw c.push_reserved.ensures.items (unwrapped c.loop-slot.answers.items c.unwrap.result c.in-Some.slot left rest c.args.slots.items before.2 taken c.unwrap.ensures),
      All-rest IsSome c.in-Some.slot rest left taken before.3,
      omega (arith, before.4, ap length taken, ap length c.push_reserved.ensures.items, length_push c.loop-slot.answers.items c.unwrap.result, c.push_reserved.ensures.capacity),
    )
