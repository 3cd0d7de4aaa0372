use Rattle.std.proofs.Common.{◌≡◌, subst}
use Rattle.std.specs.Prelude.{IfSome, slice_index_or}
use Rattle.job_windows.proofs.Merging.{some_left, due_taken}
use Rattle.job_windows.proofs.seats.due_of.Goals as goal

pub unwrap-outcome-requires : goal.unwrap-outcome-requires
unwrap-outcome-requires c =
    let given = c.requires in
    c.pop_front.ensures.variant.1
    (some_left given.0 given.1 c.args.seat given.2 c.in-Run.field-0 c.in-Run.is given.3 c.args.answers.now.items c.args.answers.now.len given.4 c.args.answers.now.ok.0)

pub returns-in-Run : goal.returns-in-Run
returns-in-Run c = λ all k seats ordered left.
    due_taken all k c.args.seat seats c.in-Run.field-0 c.in-Run.is ordered c.args.answers.now.items c.pop_front.new.self.items left c.pop_front.ensures.rest
    c.unwrap-outcome.result
    (subst (λ o. IfSome o (λ x. x ≡ slice_index_or c.args.answers.now.items 0 x)) c.unwrap-outcome.ensures c.pop_front.ensures.lookup)
