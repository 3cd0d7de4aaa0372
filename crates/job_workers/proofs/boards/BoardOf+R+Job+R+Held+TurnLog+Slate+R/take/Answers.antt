use Rattle.std.proofs.Common.{◌≡◌, List, sym, ap, ◌∙◌, subst}
use mathlib.Core.List.{IsPrefix}
use Rattle.turn_log.specs.Passes.{seen}
use Rattle.job_workers.specs.declared.events.Event.{Event}
use Rattle.job_workers.specs.Boards.{tasks_of}
use Rattle.job_workers.proofs.Boarding.{idle_seen, first_seen}
use Rattle.job_workers.proofs.boards.BoardOf+R+Job+R+Held+TurnLog+Slate+R.take.Goals as goal

pub returns-clause-idle : goal.returns-clause-idle
returns-clause-idle g c =
    idle_seen (tasks_of c.args.self.now) c.deref.result.now c.deref.ensures.value c.value_mut.result.now.events c.take_ready-taken.new.self.events (seen c.give.new.pass) c.give.ensures.seen
    c.take_ready-taken.result c.take_ready-taken.ensures.taken

pub returns-clause-first : goal.returns-clause-first
returns-clause-first g c =
    let events : seen c.take-turn.new.pass ≡ c.value_mut.result.now.events = c.take-turn.ensures.seen ∙ ap (λ d. d.events) (sym c.value_mut.ensures.value) in
    let grown : IsPrefix (seen c.args.pass.now) c.value_mut.result.now.events =
    subst (λ (es : List (Event g.row.R-Reply.Denot g.row.R-Held.Denot)). IsPrefix (seen c.args.pass.now) es) events c.take-turn.ensures.grown in
    first_seen (tasks_of c.args.self.now) c.deref.result.now c.deref.ensures.value c.value_mut.result.now.events c.take_ready-taken.new.self.events (seen c.give.new.pass) c.give.ensures.seen
    (seen c.args.pass.now) grown c.take_ready-taken.result c.take_ready-taken.ensures.taken
