use Rattle.std.proofs.Common.{subst}
use Rattle.job_windows.specs.Reading.{IsReading}
use Rattle.job_windows.proofs.Asking.{asked_fault}
use Rattle.job_windows.proofs.store.Store.seat.Goals as goal

pub returns-in-Refused-clause-asked : goal.returns-in-Refused-clause-asked
returns-in-Refused-clause-asked c = λ text kept.
    let reading = subst (IsReading text) c.in-Refused.is (c.in_ok-name.ensures text kept) in
    asked_fault c.args.self.now.names c.args.self.now.held.items c.args.window.now.seats.items c.args.window.now.tasks.items text c.in-Refused.outcome reading.1.0 reading.1.1 reading.1.2

pub returns-in_ok-asks-in-Job-clause-runs : goal.returns-in_ok-asks-in-Job-clause-runs
returns-in_ok-asks-in-Job-clause-runs c desk runnable =
    let reading = subst (IsReading c.requires.kept.0) c.in-Job.is (c.in_ok-name.ensures c.requires.kept.0 c.requires.kept.1) in
    c.in_ok-asks-in-Job.ensures.runs desk runnable reading.1
