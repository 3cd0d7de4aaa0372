use Rattle.std.proofs.Common.{◌≡◌, List, [], ◌∷◌, ◌++◌, length, refl, sym, ap, ◌∙◌, subst, arith}
use Rattle.std.specs.List.{All}
use Rattle.job_workers.specs.declared.events.Event.TheVariants.{Take}
use Rattle.job_workers.specs.declared.tasks.Task.{Task}
use Rattle.job_workers.specs.Needs.{OnValue, HoldFitting}
use Rattle.job_workers.specs.Machine.{IsIdle, IsFirstReady}
use Rattle.job_workers.specs.Records.{slot_at}
use Rattle.job_workers.specs.Tickets.{IsFor}
use Rattle.job_workers.specs.Slates.{SlateView, IsInOrder}
use Rattle.job_workers.proofs.Turning.{first_within, needs_met, ticket_for, values_fit, held_fit, ticket_fits, order_take}
use Rattle.job_workers.proofs.slates.Slate.take_ready.Goals as goal

pub returns-in_default-clause-taken : goal.returns-in_default-clause-taken
returns-in_default-clause-taken g c = (refl, subst (λ (v : SlateView g.row.R-Job.Denot g.row.R-Held.Denot g.row.R-Reply.Denot g.row.R.Denot). IsIdle c.args.tasks.now v.events) c.self.view_is c.in_default.ensures)

pub offset_bounds-tasks-place : goal.offset_bounds-tasks-place
offset_bounds-tasks-place g c = omega (arith, first_within c.args.tasks.now c.self.inside.records.events c.in-Some.place c.in-Some.ensures)

pub bounds-tasks-place : goal.bounds-tasks-place
bounds-tasks-place g c = first_within c.args.tasks.now c.self.inside.records.events c.in-Some.place c.in-Some.ensures

pub gather-requires-clause-met : goal.gather-requires-clause-met
gather-requires-clause-met g c κs within =
    let items = c.deref.ensures.value ∙ ap (λ (t : Task g.row.R-Job.Denot g.row.R-Held.Denot). t.needs.items) (sym c.index-tasks-place.is) in
    needs_met c.args.tasks.now c.self.inside.records.events c.in-Some.place c.index-tasks-place.result c.index-tasks-place.is c.in-Some.ensures (slot_at c.slots.result.now) c.deref.result.now
    c.slots.ensures.puts items

pub gather-requires-clause-values : goal.gather-requires-clause-values
gather-requires-clause-values g c κs within =
    let r = g.R.Runner in
    let i = c.self.inside in
    let at = r.home i.runner.value in
    let homes : at ≡ r.home c.args.runner.now = ap (λ (v : SlateView g.row.R-Job.Denot g.row.R-Held.Denot g.row.R-Reply.Denot g.row.R.Denot). r.home v.runner) c.self.view_is ∙ sym c.requires.home in
    let tasks : i.tasks.value.items ≡ c.args.tasks.now = ap (λ (v : SlateView g.row.R-Job.Denot g.row.R-Held.Denot g.row.R-Reply.Denot g.row.R.Denot). v.tasks) c.self.view_is ∙ sym c.requires.tasks in
    let order : IsInOrder r.arity (r.JobFits at) (r.HeldFits at) r.sense r.Belongs c.args.tasks.now i.records.events =
    subst (λ (ts : List (Task g.row.R-Job.Denot g.row.R-Held.Denot)). IsInOrder r.arity (r.JobFits at) (r.HeldFits at) r.sense r.Belongs ts i.records.events) tasks c.self.invariant.1 in
    let items = c.deref.ensures.value ∙ ap (λ (t : Task g.row.R-Job.Denot g.row.R-Held.Denot). t.needs.items) (sym c.index-tasks-place.is) in
    subst (λ h. All (OnValue (r.HeldFits h)) c.deref.result.now) homes
    (values_fit r.arity (r.JobFits at) (r.HeldFits at) r.sense r.Belongs c.args.tasks.now i.records.events c.in-Some.place c.index-tasks-place.result c.deref.result.now order
    (first_within c.args.tasks.now i.records.events c.in-Some.place c.in-Some.ensures) c.index-tasks-place.is items)

pub gather-requires-clause-held : goal.gather-requires-clause-held
gather-requires-clause-held g c κs within =
    let r = g.R.Runner in
    let i = c.self.inside in
    let at = r.home i.runner.value in
    let homes : at ≡ r.home c.args.runner.now = ap (λ (v : SlateView g.row.R-Job.Denot g.row.R-Held.Denot g.row.R-Reply.Denot g.row.R.Denot). r.home v.runner) c.self.view_is ∙ sym c.requires.home in
    subst (λ h. HoldFitting (r.HeldFits h) (slot_at c.slots.result.now)) homes
    (held_fit r.arity (r.JobFits at) (r.HeldFits at) r.sense r.Belongs i.tasks.value.items i.records.events (slot_at c.slots.result.now) c.self.invariant.1 c.slots.ensures.puts)

pub take-requires-clause-within : goal.take-requires-clause-within
take-requires-clause-within g c =
    let i = c.self.inside in
    let tasks : i.tasks.value.items ≡ c.args.tasks.now = ap (λ (v : SlateView g.row.R-Job.Denot g.row.R-Held.Denot g.row.R-Reply.Denot g.row.R.Denot). v.tasks) c.self.view_is ∙ sym c.requires.tasks in
    omega (arith, first_within c.args.tasks.now i.records.events c.in-Some.place c.in-Some.ensures, ap length tasks, c.self.invariant.0)

pub invariant_of-self : goal.invariant_of-self
invariant_of-self g c =
    let r = g.R.Runner in
    let i = c.self.inside in
    let at = r.home i.runner.value in
    let tasks : i.tasks.value.items ≡ c.args.tasks.now = ap (λ (v : SlateView g.row.R-Job.Denot g.row.R-Held.Denot g.row.R-Reply.Denot g.row.R.Denot). v.tasks) c.self.view_is ∙ sym c.requires.tasks in
    let first : IsFirstReady i.tasks.value.items i.records.events c.in-Some.place =
    subst (λ (ts : List (Task g.row.R-Job.Denot g.row.R-Held.Denot)). IsFirstReady ts i.records.events c.in-Some.place) (sym tasks) c.in-Some.ensures in
    subst (λ h. (h.tasks ≡ length i.tasks.value.items) × IsInOrder r.arity (r.JobFits at) (r.HeldFits at) r.sense r.Belongs i.tasks.value.items h.events) (sym c.take.ensures)
    (c.self.invariant.0, order_take r.arity (r.JobFits at) (r.HeldFits at) r.sense r.Belongs i.tasks.value.items i.records.events c.in-Some.place c.self.invariant.1 first)

pub returns-clause-grown : goal.returns-clause-grown
returns-clause-grown g c = (
  Take c.in-Some.place ∷ [],
  ap (λ (v : SlateView g.row.R-Job.Denot g.row.R-Held.Denot g.row.R-Reply.Denot g.row.R.Denot). v.events ++ Take c.in-Some.place ∷ []) (sym c.self.view_is) ∙ ap (λ h. h.events) (sym c.take.ensures),
)

pub returns-clause-taken : goal.returns-clause-taken
returns-clause-taken g c = (
  subst (λ (v : SlateView g.row.R-Job.Denot g.row.R-Held.Denot g.row.R-Reply.Denot g.row.R.Denot). IsFirstReady c.args.tasks.now v.events c.in-Some.place) c.self.view_is c.in-Some.ensures,
  ap (λ h. h.events) c.take.ensures ∙ ap (λ (v : SlateView g.row.R-Job.Denot g.row.R-Held.Denot g.row.R-Reply.Denot g.row.R.Denot). v.events ++ Take c.in-Some.place ∷ []) c.self.view_is,
)

pub returns-clause-ticket : goal.returns-clause-ticket
returns-clause-ticket g c =
    let r = g.R.Runner in
    let i = c.self.inside in
    let items = c.deref.ensures.value ∙ ap (λ (t : Task g.row.R-Job.Denot g.row.R-Held.Denot). t.needs.items) (sym c.index-tasks-place.is) in
    subst (λ h. IsFor r.sense c.args.tasks.now h.events (record { place = c.in-Some.place; given = c.in_ok-given.given; has_more = c.is_some-has_more.result })) (sym c.take.ensures)
    (ticket_for c.args.tasks.now i.records.events c.in-Some.place c.index-tasks-place.result c.index-tasks-place.is c.in-Some.ensures r.sense
    (record { place = c.in-Some.place; given = c.in_ok-given.given; has_more = c.is_some-has_more.result }) (slot_at c.slots.result.now) c.deref.result.now refl c.slots.ensures.puts items c.in_ok-given.ensures.given)

pub returns-clause-order : goal.returns-clause-order
returns-clause-order g c = (invariant_of-self g c).1

pub returns-clause-fits : goal.returns-clause-fits
returns-clause-fits g c =
    let r = g.R.Runner in
    let i = c.self.inside in
    let at = r.home i.runner.value in
    let homes : at ≡ r.home c.args.runner.now = ap (λ (v : SlateView g.row.R-Job.Denot g.row.R-Held.Denot g.row.R-Reply.Denot g.row.R.Denot). r.home v.runner) c.self.view_is ∙ sym c.requires.home in
    let tasks : i.tasks.value.items ≡ c.args.tasks.now = ap (λ (v : SlateView g.row.R-Job.Denot g.row.R-Held.Denot g.row.R-Reply.Denot g.row.R.Denot). v.tasks) c.self.view_is ∙ sym c.requires.tasks in
    let order : IsInOrder r.arity (r.JobFits (r.home c.args.runner.now)) (r.HeldFits (r.home c.args.runner.now)) r.sense r.Belongs c.args.tasks.now c.take.new.self.events =
    subst (λ h. IsInOrder r.arity (r.JobFits h) (r.HeldFits h) r.sense r.Belongs c.args.tasks.now c.take.new.self.events) homes
    (subst (λ (ts : List (Task g.row.R-Job.Denot g.row.R-Held.Denot)). IsInOrder r.arity (r.JobFits at) (r.HeldFits at) r.sense r.Belongs ts c.take.new.self.events) tasks (returns-clause-order g c)) in
    ticket_fits r.arity (r.JobFits (r.home c.args.runner.now)) (r.HeldFits (r.home c.args.runner.now)) r.sense r.Belongs c.args.tasks.now c.take.new.self.events
    (record { place = c.in-Some.place; given = c.in_ok-given.given; has_more = c.is_some-has_more.result }) order (returns-clause-ticket g c) c.in_ok-given.ensures.fits
