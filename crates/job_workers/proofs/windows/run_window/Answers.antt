use Rattle.std.proofs.Common.{◌≡◌, length, sym, ap, ◌∙◌, subst, arith}
use Rattle.std.specs.Prelude.{Some, IsSome, slice_get}
use Rattle.std.specs.List.{All}
use Rattle.std.proofs.lemmas.List.{length-map}
use Rattle.job_workers.specs.Needs.{AreAnswers, HoldFitting}
use Rattle.job_workers.specs.Records.{slot_at}
use Rattle.job_workers.proofs.Filling.{lent_whole, slots_full, All-unwrapped}
use Rattle.job_workers.proofs.windows.run_window.Goals as goal

pub run_rest-requires-clause-answers : goal.run_rest-requires-clause-answers
run_rest-requires-clause-answers g c κs within =
    let r = g.R.Runner in
    subst (λ ss. AreAnswers r.sense r.Belongs c.deref.result.now (slot_at ss)) (sym c.deref_mut.ensures.value)
    (subst (λ ts. AreAnswers r.sense r.Belongs ts (slot_at c.close-tasks.result.1.items)) (sym (c.deref.ensures.value ∙ c.close-tasks.ensures.tasks)) c.close-tasks.ensures.answers)

pub run_rest-requires-clause-held : goal.run_rest-requires-clause-held
run_rest-requires-clause-held g c κs within =
    let r = g.R.Runner in
    subst (λ ss. HoldFitting (r.HeldFits (r.home c.args.runner.now)) (slot_at ss)) (sym c.deref_mut.ensures.value)
    (subst (λ h. HoldFitting (r.HeldFits h) (slot_at c.close-tasks.result.1.items)) c.in_ok-board.ensures.home c.close-tasks.ensures.fits)

pub unwrap_all-requires-clause-done : goal.unwrap_all-requires-clause-done
unwrap_all-requires-clause-done g c =
    let same : length c.run_rest.new.slots ≡ length c.close-tasks.result.1.items = c.run_rest.auto.slots ∙ ap length c.deref_mut.ensures.value in
    let back = lent_whole c.run_rest.new.slots c.close-tasks.result.1.items c.close-tasks.result.1.len same (omega (arith, c.close-tasks.result.1.ok.0)) in
    subst (All IsSome) (sym back) c.in_ok-run_rest.ensures.done

pub returns-clause-length : goal.returns-clause-length
returns-clause-length g c =
    let same : length c.run_rest.new.slots ≡ length c.close-tasks.result.1.items = c.run_rest.auto.slots ∙ ap length c.deref_mut.ensures.value in
    let back = lent_whole c.run_rest.new.slots c.close-tasks.result.1.items c.close-tasks.result.1.len same (omega (arith, c.close-tasks.result.1.ok.0)) in
    sym (length-map c.unwrap_all.result.items Some)
    ∙ (ap length (c.unwrap_all.ensures ∙ back) ∙ (same ∙ (c.close-tasks.ensures.length ∙ ap length c.in_ok-board.ensures.tasks)))

pub returns-clause-answers : goal.returns-clause-answers
returns-clause-answers g c =
    let r = g.R.Runner in
    let same : length c.run_rest.new.slots ≡ length c.close-tasks.result.1.items = c.run_rest.auto.slots ∙ ap length c.deref_mut.ensures.value in
    let back = lent_whole c.run_rest.new.slots c.close-tasks.result.1.items c.close-tasks.result.1.len same (omega (arith, c.close-tasks.result.1.ok.0)) in
    let tasks = c.deref.ensures.value ∙ (c.close-tasks.ensures.tasks ∙ c.in_ok-board.ensures.tasks) in
    subst (λ ts. AreAnswers r.sense r.Belongs ts (slice_get c.unwrap_all.result.items)) tasks
    (subst (AreAnswers r.sense r.Belongs c.deref.result.now) (slots_full c.run_rest.new.slots c.unwrap_all.result.items (c.unwrap_all.ensures ∙ back)) c.in_ok-run_rest.ensures.answers)

pub returns-clause-fits : goal.returns-clause-fits
returns-clause-fits g c =
    let r = g.R.Runner in
    let at = r.home c.args.runner.now in
    let same : length c.run_rest.new.slots ≡ length c.close-tasks.result.1.items = c.run_rest.auto.slots ∙ ap length c.deref_mut.ensures.value in
    let back = lent_whole c.run_rest.new.slots c.close-tasks.result.1.items c.close-tasks.result.1.len same (omega (arith, c.close-tasks.result.1.ok.0)) in
    All-unwrapped (r.HeldFits at) c.unwrap_all.result.items
    (subst (HoldFitting (r.HeldFits at)) (slots_full c.run_rest.new.slots c.unwrap_all.result.items (c.unwrap_all.ensures ∙ back)) c.in_ok-run_rest.ensures.held)
