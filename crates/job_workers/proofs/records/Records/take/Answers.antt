use Rattle.std.proofs.Common.{◌≡◌, ◌<◌, false, [], ◌∷◌, length, map, subst, sym, ap, ◌∙◌, arith}
use Rattle.std.proofs.lemmas.List.{length-map, map-append}
use Rattle.job_workers.specs.Events.{is_taken}
use Rattle.job_workers.specs.Records.{event_of, History}
use Rattle.job_workers.specs.declared.records.Step.TheVariants.{Took}
use Rattle.job_workers.proofs.Marks.{room_for_take, agree_take}
use Rattle.job_workers.proofs.records.Records.take.Goals as goal

pub push_reserved-requires : goal.push_reserved-requires
push_reserved-requires g c =
    let i = c.self.inside in
    let waits : is_taken c.args.place (map event_of i.steps.items) ≡ false =
    subst (λ (v : History g.row.P.Denot g.row.H.Denot). is_taken c.args.place v.events ≡ false) (sym c.self.view_is) c.requires.waits in
    let within : c.args.place < length i.slots.items = subst (λ (v : History g.row.P.Denot g.row.H.Denot). c.args.place < v.tasks) (sym c.self.view_is) c.requires.within in
    omega (arith, room_for_take _ _ _ c.self.invariant.0 c.args.place within waits, length-map i.steps.items event_of, c.self.invariant.1)

pub invariant_of-self : goal.invariant_of-self
invariant_of-self g c =
    let i = c.self.inside in
    let waits : is_taken c.args.place (map event_of i.steps.items) ≡ false =
    subst (λ (v : History g.row.P.Denot g.row.H.Denot). is_taken c.args.place v.events ≡ false) (sym c.self.view_is) c.requires.waits in
    let within : c.args.place < length i.slots.items = subst (λ (v : History g.row.P.Denot g.row.H.Denot). c.args.place < v.tasks) (sym c.self.view_is) c.requires.within in
    let more = ap (map event_of) c.push_reserved.ensures.items ∙ map-append event_of i.steps.items (Took c.args.place ∷ []) in (
      rw more (agree_take _ _ _ c.self.invariant.0 c.args.place within waits),
      omega (arith, c.push_reserved.ensures.capacity, c.self.invariant.1),
    )
