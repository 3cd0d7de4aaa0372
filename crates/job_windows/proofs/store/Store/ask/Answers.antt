use Rattle.std.proofs.Common.{ℕ, List, refl, sym, ap, ◌∙◌, subst, arith}
use Rattle.std.specs.Prelude.{is_some}
use Rattle.std.specs.HashMap.{get_by_text}
use Rattle.job_windows.specs.Means.{AreTasks}
use Rattle.job_windows.proofs.Asking.{asked_taken, asked_pushed, tasks_more}
use Rattle.job_windows.proofs.store.Store.ask.Goals as goal

pub returns-then-is_taken-clause-asked : goal.returns-then-is_taken-clause-asked
returns-then-is_taken-clause-asked c = λ line named reads.
    let names = c.args.self.now.names in
    asked_taken names c.args.self.now.held.items c.args.window.now.seats.items line c.args.name.now c.args.op named reads c.args.window.now.tasks.items
    (ap (λ (q : List ℕ). is_some (get_by_text names.places q)) (sym c.as_str.ensures.text) ∙ sym c.is_taken.ensures ∙ c.if-is_taken.true)

pub returns-clause-asked : goal.returns-clause-asked
returns-clause-asked c = λ line named reads.
    let names = c.args.self.now.names in
    asked_pushed names c.args.self.now.held.items c.args.window.now.seats.items line c.args.name.now c.args.op named reads c.args.window.now.tasks.items c.push.new.self.items _
    c.len-place.result c.in_ok-push.ensures.items (omega (arith, c.len-place.ensures, c.args.window.now.tasks.ok.0))
    (ap (λ (q : List ℕ). is_some (get_by_text names.places q)) (sym c.as_str.ensures.text) ∙ sym c.is_taken.ensures ∙ c.if-is_taken.false) refl c.in_ok-needs.ensures

pub returns-clause-adds : goal.returns-clause-adds
returns-clause-adds c = (omega (arith, c.len-place.ensures, c.args.window.now.tasks.ok.0), (_, c.in_ok-push.ensures.items))

pub returns-clause-runs : goal.returns-clause-runs
returns-clause-runs c = λ desk runnable formed.
    subst (AreTasks desk) (sym c.in_ok-push.ensures.items)
    (tasks_more desk c.args.self.now.names c.args.self.now.held.items c.args.window.now.seats.items c.args.window.now.tasks.items c.args.op runnable _ formed refl c.in_ok-needs.ensures)
