use Rattle.std.proofs.Common.{◌≡◌, List, sym, ap, ◌∙◌, subst}
use mathlib.Core.List.{IsPrefix}
use Rattle.turn_log.specs.Passes.{seen}
use Rattle.job_workers.specs.declared.events.Event.{Event}
use Rattle.job_workers.specs.declared.tasks.Task.{Task}
use Rattle.job_workers.specs.Tickets.{IsFor, Answers}
use Rattle.job_workers.specs.Boards.{tasks_of}
use Rattle.job_workers.proofs.Boarding.{for_along}
use Rattle.job_workers.proofs.boards.BoardOf+R+Job+R+Held+TurnLog+Slate+R.put.Goals as goal

pub put-requires-clause-ticket : goal.put-requires-clause-ticket
put-requires-clause-ticket g c κs within =
    let r = g.R.Runner in
    let v = c.value_mut.result.now in
    let tasks : v.tasks ≡ tasks_of c.args.self.now = ap (λ d. d.tasks) c.value_mut.ensures.value ∙ (ap (λ h. h.0) c.take-turn.ensures.home ∙ c.requires.pass.tasks) in
    let events : seen c.take-turn.new.pass ≡ v.events = c.take-turn.ensures.seen ∙ ap (λ d. d.events) (sym c.value_mut.ensures.value) in
    let grown : IsPrefix (seen c.args.pass.now) v.events =
    subst (λ (es : List (Event g.row.R-Reply.Denot g.row.R-Held.Denot)). IsPrefix (seen c.args.pass.now) es) events c.take-turn.ensures.grown in
    subst (λ (ts : List (Task g.row.R-Job.Denot g.row.R-Held.Denot)). IsFor r.sense ts v.events c.args.ticket) (sym tasks)
    (for_along (seen c.args.pass.now) v.events grown r.sense (tasks_of c.args.self.now) c.args.ticket c.requires.ticket)

pub put-requires-clause-answer : goal.put-requires-clause-answer
put-requires-clause-answer g c κs within =
    let r = g.R.Runner in
    let v = c.value_mut.result.now in
    let tasks : v.tasks ≡ tasks_of c.args.self.now = ap (λ d. d.tasks) c.value_mut.ensures.value ∙ (ap (λ h. h.0) c.take-turn.ensures.home ∙ c.requires.pass.tasks) in
    subst (λ (ts : List (Task g.row.R-Job.Denot g.row.R-Held.Denot)). Answers r.sense ts r.Belongs c.args.ticket c.args.reply c.args.held) (sym tasks) c.requires.answer
