use Rattle.std.proofs.Common.{List, sym, ap, ◌∙◌, subst}
use Rattle.std.specs.Prelude.{is_some}
use Rattle.turn_log.specs.Passes.{seen}
use Rattle.job_workers.specs.declared.tasks.Task.{Task}
use Rattle.job_workers.specs.Needs.{AreAnswers, HoldFitting}
use Rattle.job_workers.specs.Machine.{IsRun}
use Rattle.job_workers.specs.Records.{slot_at}
use Rattle.job_workers.specs.Boards.{tasks_of}
use Rattle.job_workers.proofs.Goodness.{run_is_good}
use Rattle.job_workers.proofs.Boarding.{done_along}
use Rattle.job_workers.proofs.boards.BoardOf+R+Job+R+Held+TurnLog+Slate+R.close.Goals as goal

pub returns-clause-last : goal.returns-clause-last
returns-clause-last g c =
    let r = g.R.Runner in
    let tasks = ap (λ h. h.0) c.close.ensures.home ∙ c.requires.tasks in
    record {
      events = c.close.result.events;
      grown = c.close.ensures.grown;
      run =
          subst (λ (ts : List (Task g.row.R-Job.Denot g.row.R-Held.Denot)). IsRun ts r.sense r.Belongs c.close.result.events) tasks
          c.into_slots-slots.ensures.order.run;
      puts = c.into_slots-slots.ensures.puts;
    }

pub returns-clause-answers : goal.returns-clause-answers
returns-clause-answers g c =
    let r = g.R.Runner in
    let last = returns-clause-last g c in
    subst (AreAnswers r.sense r.Belongs (tasks_of c.args.self)) (sym last.puts) (run_is_good (tasks_of c.args.self) r.sense r.Belongs last.events last.run).answers

pub returns-clause-fits : goal.returns-clause-fits
returns-clause-fits g c =
    let r = g.R.Runner in
    let home = ap (λ h. h.1) c.close.ensures.home in
    subst (λ h. HoldFitting (r.HeldFits h) (slot_at c.into_slots-slots.result.items)) home
    (subst (HoldFitting (r.HeldFits (r.home c.close.result.runner))) (sym c.into_slots-slots.ensures.puts) c.into_slots-slots.ensures.order.held)

pub returns-clause-done : goal.returns-clause-done
returns-clause-done g c place done =
    ap (λ f. is_some (f place)) c.into_slots-slots.ensures.puts ∙ done_along (seen c.args.pass) c.close.result.events c.close.ensures.grown place done
