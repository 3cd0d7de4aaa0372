use Rattle.std.proofs.Common.{below_more, sym, ◌∙◌, arith, refl}
use Rattle.std.proofs.lemmas.Option.{slice_get_read, slice_get_within}
use Rattle.job_workers.proofs.Readiness.{ready_by, unmet_by}
use Rattle.job_workers.proofs.records.Records.first_ready.Goals as goal
use Rattle.job_workers.proofs.records.Records.first_ready.Goals.{else-not-is_taken-via-then-not-is_taken+else-may_begin, else-not-is_taken-via-else-not-is_taken}

pub returns-then-may_begin : goal.returns-then-may_begin
returns-then-may_begin g c =
    let there = slice_get_read c.args.tasks.now _ c.loop-place.place c.index-tasks-place.result refl c.loop-place-test.true c.index-tasks-place.is in (
      ready_by c.args.tasks.now c.args.self.now.events c.loop-place.place c.index-tasks-place.result there _ _ c.slots.ensures.puts c.may_begin.ensures
          c.if-may_begin.true (sym c.is_taken.ensures ∙ c.if-not-is_taken.true),
      c.loop-place.invariant,
    )

pub loop-place-preserved : goal.loop-place-preserved
loop-place-preserved g c =
    below_more _ _ c.loop-place.invariant
    (elim c.else-not-is_taken.branch [
      | else-not-is_taken-via-then-not-is_taken+else-may_begin w ↦
          let there = slice_get_read c.args.tasks.now _ c.loop-place.place c.index-tasks-place.result refl c.loop-place-test.true c.index-tasks-place.is in
          unmet_by c.args.tasks.now c.args.self.now.events c.loop-place.place c.index-tasks-place.result there _ _ w.slots.ensures.puts w.may_begin.ensures
          w.if-may_begin.false
      | else-not-is_taken-via-else-not-is_taken w ↦ λ ready. absurd (cc (ready.0, c.is_taken.ensures, w.if-not-is_taken.false))
    ])

pub returns : goal.returns
returns g c k ready =
    let within = slice_get_within c.args.tasks.now k ready.1.task ready.1.there in
    c.loop-place.invariant k (omega (arith, within, c.loop-place-test.false)) ready
