use Rattle.std.proofs.Common.{ℕ, ◌<◌}
use Rattle.job_workers.specs.Machine.{IsReady}
use Rattle.job_workers.proofs.records.Records.first_ready.Given as goal

abbrev pub invariant-loop-place : goal.invariant-loop-place
invariant-loop-place g l = (k : ℕ) → k < l.place → ¬ IsReady l.tasks l.self.events k
