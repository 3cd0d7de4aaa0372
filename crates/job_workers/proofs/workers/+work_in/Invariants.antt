-- A worker starts the next one for one worker fewer: by `start`, whose closure calls `work_in` in the new thread.
use Rattle.std.proofs.Common.{◌+◌, ◌*◌}
use Rattle.job_workers.proofs.workers.+work_in.Given as goal

abbrev pub decreases-work_in : goal.decreases-work_in
decreases-work_in g l = 3 * l.workers

abbrev pub decreases-start-job : goal.decreases-start-job
decreases-start-job g l = 3 * l.workers + 1

abbrev pub decreases-start : goal.decreases-start
decreases-start g l = 3 * l.workers + 2
