use Rattle.std.proofs.Common.{◌≡◌, ◌<◌, false, [], ◌∷◌, length, map, subst, sym, ap, ◌∙◌, arith}
use Rattle.std.proofs.lemmas.List.{length-map, map-append, length-set}
use Rattle.std.specs.Prelude.{Some}
use Rattle.job_workers.specs.Events.{is_done}
use Rattle.job_workers.specs.Records.{event_of, History}
use Rattle.job_workers.specs.declared.events.Event.TheVariants.{Put}
use Rattle.job_workers.specs.declared.records.Step.TheVariants.{Done}
use Rattle.job_workers.proofs.Marks.{room_for_put, agree_put}
use Rattle.job_workers.proofs.records.Records.finish.Goals as goal

pub push_reserved-requires : goal.push_reserved-requires
push_reserved-requires g c =
    let i = c.self.inside in
    let open' : is_done c.args.place (map event_of i.steps.items) ≡ false =
    subst (λ (v : History g.row.P.Denot g.row.H.Denot). is_done c.args.place v.events ≡ false) (sym c.self.view_is) c.requires.open in
    let within : c.args.place < length i.slots.items = subst (λ (v : History g.row.P.Denot g.row.H.Denot). c.args.place < v.tasks) (sym c.self.view_is) c.requires.within in
    omega (arith, room_for_put _ _ _ c.self.invariant.0 c.args.place (c.args.reply, c.args.held) within open', length-map i.steps.items event_of, c.self.invariant.1)

pub invariant_of-self : goal.invariant_of-self
invariant_of-self g c =
    let i = c.self.inside in
    let slots = i.slots.items in
    let open' : is_done c.args.place (map event_of i.steps.items) ≡ false =
    subst (λ (v : History g.row.P.Denot g.row.H.Denot). is_done c.args.place v.events ≡ false) (sym c.self.view_is) c.requires.open in
    let within : c.args.place < length slots = subst (λ (v : History g.row.P.Denot g.row.H.Denot). c.args.place < v.tasks) (sym c.self.view_is) c.requires.within in
    let more = ap (map event_of) c.push_reserved.ensures.items ∙ map-append event_of i.steps.items (Done c.args.place c.of.result ∷ []) in
    let event : event_of (Done c.args.place c.of.result) ≡ Put c.args.place c.args.reply c.args.held = ap (λ a. Put c.args.place a.0 a.1) c.of.ensures in (
      rw (more, event) (agree_put _ _ _ c.self.invariant.0 c.args.place c.args.reply c.args.held within open'),
      omega (arith, c.push_reserved.ensures.capacity, c.self.invariant.1, length-set slots c.args.place (Some (c.args.reply, c.args.held))),
    )
