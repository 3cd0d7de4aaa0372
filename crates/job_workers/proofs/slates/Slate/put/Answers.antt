use Rattle.std.proofs.Common.{sym, subst, ◌∙◌}
use mathlib.Core.List.{IsPrefix}
use Rattle.job_workers.specs.Tickets.{place_of, IsFor, Answers}
use Rattle.job_workers.specs.Slates.{SlateView}
use Rattle.job_workers.proofs.Turning.{order_after, put_done, put_grown}
use Rattle.job_workers.proofs.slates.Slate.put.Goals as goal

pub invariant_of-self : goal.invariant_of-self
invariant_of-self g c =
    let r = g.R.Runner in
    let i = c.self.inside in
    let JobFits = r.JobFits (r.home i.runner.value) in
    let HeldFits = r.HeldFits (r.home i.runner.value) in
    let tasks = i.tasks.value.items in
    let for' : IsFor r.sense tasks i.records.events c.args.ticket =
    subst (λ (v : SlateView g.row.R-Job.Denot g.row.R-Held.Denot g.row.R-Reply.Denot g.row.R.Denot). IsFor r.sense v.tasks v.events c.args.ticket) (sym c.self.view_is) c.requires.ticket in
    let belongs : Answers r.sense tasks r.Belongs c.args.ticket c.args.reply c.args.held =
    subst (λ (v : SlateView g.row.R-Job.Denot g.row.R-Held.Denot g.row.R-Reply.Denot g.row.R.Denot). Answers r.sense v.tasks r.Belongs c.args.ticket c.args.reply c.args.held) (sym c.self.view_is)
    c.requires.answer in
    let fits : HeldFits c.args.held =
    subst (λ (v : SlateView g.row.R-Job.Denot g.row.R-Held.Denot g.row.R-Reply.Denot g.row.R.Denot). r.HeldFits (r.home v.runner) c.args.held) (sym c.self.view_is) c.requires.fits in (
      c.put.ensures.same ∙ c.self.invariant.0,
      order_after r.arity JobFits HeldFits r.sense r.Belongs tasks i.records.events c.put.new.self.events c.args.ticket c.args.reply c.args.held c.self.invariant.1 for' belongs fits c.put.ensures.put,
    )

pub returns-clause-done : goal.returns-clause-done
returns-clause-done g c = put_done c.self.inside.records.events c.put.new.self.events (place_of c.args.ticket) c.args.reply c.args.held c.put.ensures.put

pub returns-clause-order : goal.returns-clause-order
returns-clause-order g c = (invariant_of-self g c).1

pub returns-clause-grown : goal.returns-clause-grown
returns-clause-grown g c =
    subst (λ (v : SlateView g.row.R-Job.Denot g.row.R-Held.Denot g.row.R-Reply.Denot g.row.R.Denot). IsPrefix v.events c.put.new.self.events) c.self.view_is
    (put_grown c.self.inside.records.events c.put.new.self.events (place_of c.args.ticket) c.args.reply c.args.held c.put.ensures.put)
