use Rattle.std.specs.Vec.Iter.{into_iter_items}
use Rattle.std.proofs.lemmas.List.Elements.{All-push}
use Rattle.proof_server.specs.Parts.{has_no_needs}
use Rattle.proof_server.proofs.Served.{task_more}
use Rattle.proof_server.proofs.parts.tasks_of.Goals as goal

pub loop-part-preserved : goal.loop-part-preserved
loop-part-preserved c =
    let before = c.loop-part.invariant in
    let rest = into_iter_items c.next.new.self in (
      tt,
      tt,
      rw c.in_ok-push.ensures.items (task_more c.loop-part.tasks.items _ (into_iter_items c.loop-part.part-iterator) rest c.args.parts.items before.2 c.in-Some.ensures.steps.0),
      rw c.in_ok-push.ensures.items (All-push has_no_needs c.loop-part.tasks.items _ before.3 c.new.ensures.items),
    )
