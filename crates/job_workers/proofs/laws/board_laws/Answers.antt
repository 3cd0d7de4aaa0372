use Rattle.job_workers.proofs.Goodness.{run_is_good, taken_once, done_once}
use Rattle.job_workers.proofs.laws.board_laws.Goals as goal

pub returns-clause-good : goal.returns-clause-good
returns-clause-good g c tasks events runs = run_is_good tasks g.R.Runner.sense g.R.Runner.Belongs events runs

pub returns-clause-taken_once : goal.returns-clause-taken_once
returns-clause-taken_once g c tasks events runs place = taken_once tasks g.R.Runner.sense g.R.Runner.Belongs events runs place

pub returns-clause-done_once : goal.returns-clause-done_once
returns-clause-done_once g c tasks events runs place = done_once tasks g.R.Runner.sense g.R.Runner.Belongs events runs place
