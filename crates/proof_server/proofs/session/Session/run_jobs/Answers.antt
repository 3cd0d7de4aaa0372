use Rattle.std.proofs.Common.{refl, sym, subst}
use Rattle.std.proofs.lemmas.Result.{IfOk-weaker}
use Rattle.job_windows.specs.Means.{IsGathered, IsPending}
use Rattle.job_windows.specs.declared.seats.Window.{Window}
use Rattle.proof_server.proofs.Turns.{ran}
use Rattle.proof_server.proofs.session.Session.run_jobs.Goals as goal

pub returns-clause-writing : goal.returns-clause-writing
returns-clause-writing g c = λ asked written at.
    let before = c.args.self.now in
    IfOk-weaker c.run_behind.result (λ dues. IsPending c.args.desk.now c.run_behind.new.store at.done at.waiting dues.items) _
    (λ dues pending. ran c.args.desk.now before _ asked written dues.items at refl refl refl refl pending)
    (c.run_behind.ensures.due at.done at.waiting (subst (λ (w : Window). IsGathered c.args.desk.now before.store w at.done at.waiting) (sym c.replace-window.ensures.value) at.gathered))
