use Rattle.std.proofs.Common.{List, ◌++◌, length, refl, sym, ap, ◌∙◌, subst, arith}
use Rattle.std.specs.Vec.Iter.{into_iter_items}
use Rattle.std.proofs.KnownBytes.{Appends-nil}
use Rattle.job_windows.specs.declared.seats.Due.{Due}
use Rattle.proof_server.specs.Turn.{IsWriting, WritesMore}
use Rattle.proof_server.proofs.Turns.{none_left, writes_none, writes_on, writes_stop}
use Rattle.proof_server.proofs.session.Session.write_all.Goals as goal

pub loop-due-init : goal.loop-due-init
loop-due-init g c =
    let gives = c.into_iter-due-iterator.ensures.into_iter_gives.0 in
    let self = c.args.self.now in (
      tt,
      tt,
      λ desk asked written w.
          writes_none (λ bytes. IsWriting desk self asked bytes (into_iter_items c.into_iter-due-iterator.result)) written _ _ (Appends-nil (g.K.Sink.written c.args.sink.now))
          (subst (λ (ds : List Due). IsWriting desk self asked written ds) (sym gives) w),
      omega (arith, ap length gives),
      refl,
      omega arith,
      refl,
      λ some. let many = ap length gives in let room = c.requires.writing.3.pending.room (omega (arith, some, many)) in omega (arith, room, many),
    )

pub loop-due-preserved : goal.loop-due-preserved
loop-due-preserved g c =
    let before = c.loop-due.invariant in
    let taken = c.in-Some.ensures.steps.0 in
    let rest = into_iter_items c.next.new.self in
    let wrote = c.in-Ok.ensures in (
      tt,
      tt,
      λ desk asked written w.
          let so_far = before.2 desk asked written w in
          writes_on (λ bytes. IsWriting desk c.loop-due.self asked bytes (into_iter_items c.loop-due.due-iterator)) (λ bytes. IsWriting desk c.write.new.self asked bytes rest) written _ _ _ so_far
          (wrote.writes desk asked (written ++ so_far.more) rest (subst (λ (ds : List Due). IsWriting desk c.loop-due.self asked (written ++ so_far.more) ds) taken so_far.holds)),
      omega (arith, before.3, ap length taken, wrote.few),
      wrote.window ∙ before.4,
      omega (arith, before.5, wrote.faults),
      wrote.pass ∙ before.6,
      λ some. let many = ap length taken in let room = before.7 (omega (arith, many)) in omega (arith, room, many, wrote.spare.0, wrote.spare.1),
    )

pub write-requires-clause-spare : goal.write-requires-clause-spare
write-requires-clause-spare g c =
    let many = ap length c.in-Some.ensures.steps.0 in
    let room = c.loop-due.invariant.7 (omega (arith, many)) in
    omega (arith, room, many)

pub returns-in-Err-clause-writes : goal.returns-in-Err-clause-writes
returns-in-Err-clause-writes g c = λ desk asked written w.
    let before = c.loop-due.invariant in
    let taken = c.in-Some.ensures.steps.0 in
    let rest = into_iter_items c.next.new.self in
    let so_far = before.2 desk asked written w in
    writes_stop desk c.in-Err.stop c.loop-due.self c.write.new.self c.write.new.self asked written (into_iter_items c.loop-due.due-iterator) rest _ _ _ _ _ _ before.5 so_far
    (c.in-Err.ensures.writes desk asked (written ++ so_far.more) rest (subst (λ (ds : List Due). IsWriting desk c.loop-due.self asked (written ++ so_far.more) ds) taken so_far.holds))

pub returns-clause-writes : goal.returns-clause-writes
returns-clause-writes g c = λ desk asked written w.
    subst (λ (ds : List Due). WritesMore (λ bytes. IsWriting desk c.loop-due.self asked bytes ds) written (g.K.Sink.written c.args.sink.now) (g.K.Sink.written c.loop-due.sink))
    (none_left (into_iter_items c.loop-due.due-iterator) (omega (arith, c.in-None.ensures.steps.0, c.loop-due.due-iterator.rest.ok.0))) (c.loop-due.invariant.2 desk asked written w)
