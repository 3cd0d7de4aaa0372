use Rattle.std.proofs.Common.{length, ap, arith}
use Rattle.std.specs.Vec.Iter.{into_iter_items}
use Rattle.std.proofs.lemmas.List.{length_push}
use Rattle.proof_server.proofs.Served.{done_more}
use Rattle.proof_server.proofs.parts.dones_of.Goals as goal

pub loop-answer-preserved : goal.loop-answer-preserved
loop-answer-preserved c =
    let before = c.loop-answer.invariant in
    let taken = c.in-Some.ensures.steps.0 in
    let rest = into_iter_items c.next.new.self in (
      tt,
      tt,
      rw c.push_reserved.ensures.items (done_more c.loop-answer.room.items c.in-Some.answer (into_iter_items c.loop-answer.answer-iterator) rest c.args.answers.items before.2 taken),
      omega (arith, before.3, ap length taken, ap length c.push_reserved.ensures.items, length_push c.loop-answer.room.items c.in-Some.answer.0, c.push_reserved.ensures.capacity),
    )
