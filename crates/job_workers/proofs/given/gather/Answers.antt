use Rattle.std.proofs.Common.{length, ap, ◌∙◌, sym, arith}
use Rattle.std.specs.Prelude.{Some}
use Rattle.std.proofs.lemmas.List.{length_push}
use Rattle.std.proofs.lemmas.List.Elements.{All-push}
use Rattle.job_workers.specs.Records.{slot_at}
use Rattle.job_workers.proofs.Readiness.{meaning_through, given_more}
use Rattle.job_workers.proofs.given.gather.Goals as goal

pub loop-need-preserved : goal.loop-need-preserved
loop-need-preserved g c =
    let r = g.R.Runner in
    let done = slot_at c.args.slots.now in
    let means = meaning_through r.sense done c.need-item.result c.value_of.result.now c.value_of.ensures ∙ ap Some (sym c.in_ok-keep.ensures.same) in
    let fits = c.in_ok-keep.ensures.fits in (
      omega (arith, c.loop-need.invariant.0, length_push c.loop-need.given.items c.in_ok-keep.field-0, ap length c.push_reserved.ensures.items),
      omega (arith, c.loop-need.invariant.1, c.push_reserved.ensures.capacity),
      rw c.push_reserved.ensures.items
          (given_more r.sense done c.args.needs.now c.loop-need.need-index c.need-item.result c.loop-need.given.items c.in_ok-keep.field-0 (omega arith) c.need-item.is c.loop-need.invariant.2 means),
      rw c.push_reserved.ensures.items (All-push (r.HeldFits (r.home c.args.runner.now)) c.loop-need.given.items c.in_ok-keep.field-0 c.loop-need.invariant.3 fits),
    )
