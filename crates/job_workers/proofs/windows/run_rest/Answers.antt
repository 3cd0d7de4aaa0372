use Rattle.std.proofs.Common.{◌+◌, sym, ◌∙◌, subst, arith}
use Rattle.std.specs.Prelude.{None, is_some, IsSome}
use Rattle.std.proofs.lemmas.List.{get_or_default}
use Rattle.job_workers.specs.Needs.{Fits}
use Rattle.job_workers.specs.Records.{slot_at}
use Rattle.job_workers.proofs.Filling.{ArePartly, skipped, filled, met_before}
use Rattle.job_workers.proofs.windows.run_rest.Goals as goal
use Rattle.job_workers.proofs.windows.run_rest.Goals.{then-not-is_full+in_ok-made, else-not-is_full}

pub answer-requires-clause-met : goal.answer-requires-clause-met
answer-requires-clause-met g c κs within =
    let r = g.R.Runner in
    let at = r.home c.args.runner.now in
    let task = c.index-tasks-place.result in
    let fits : Fits r.arity (r.JobFits at) (r.HeldFits at) c.loop-place.place task =
    subst (Fits r.arity (r.JobFits at) (r.HeldFits at) c.loop-place.place) (sym c.index-tasks-place.is) (c.requires.window c.loop-place.place task c.loop-place-test.true) in
    met_before (λ n. is_some (slot_at c.loop-place.slots n)) c.loop-place.place task.needs.items c.loop-place.invariant.1.full fits.earlier

pub loop-place-preserved : goal.loop-place-preserved
loop-place-preserved g c =
    let r = g.R.Runner in
    let at = r.home c.args.runner.now in
    let tasks = c.args.tasks.now in
    let slots = c.loop-place.slots in
    let place = c.loop-place.place in
    let before = c.loop-place.invariant.1 in
    elim c.if-not-is_full.branch [
      | then-not-is_full+in_ok-made w ↦ (
        subst (r.PassFits at) (sym w.pass-is) w.in_ok-made.ensures.pass,
        subst (λ ss. ArePartly r.sense r.Belongs (r.HeldFits at) tasks ss (place + 1)) (sym (w.slots-is ∙ w.fill.ensures))
            (filled r.sense r.Belongs (r.HeldFits at) tasks slots place (omega (arith, c.loop-place-test.true, c.requires.length, c.loop-place.auto.slots))
            (sym c.is_full.ensures ∙ w.if-not-is_full.true) w.in_ok-made.made c.index-tasks-place.result c.index-tasks-place.is c.loop-place-test.true before w.in_ok-made.ensures.answer
            w.in_ok-made.ensures.held),
      )
      | else-not-is_full w ↦ (
        subst (r.PassFits at) (sym w.pass-is) c.loop-place.invariant.0,
        subst (λ ss. ArePartly r.sense r.Belongs (r.HeldFits at) tasks ss (place + 1)) (sym w.slots-is)
            (skipped r.sense r.Belongs (r.HeldFits at) tasks slots place before (sym c.is_full.ensures ∙ w.if-not-is_full.false)),
      )
    ]

pub returns-clause-done : goal.returns-clause-done
returns-clause-done g c k d within =
    subst IsSome (get_or_default c.loop-place.slots k None d within) (c.loop-place.invariant.1.full k (omega (arith, c.loop-place-test.false, c.requires.length, within)))
