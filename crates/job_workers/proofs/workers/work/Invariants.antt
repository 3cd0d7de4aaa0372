use Rattle.job_workers.specs.Boards.{IsPassOf}
use Rattle.job_workers.proofs.workers.work.Given as goal

abbrev pub invariant-loop : goal.invariant-loop
invariant-loop g l =
    IsPassOf g.R.Runner.sense g.R.Runner.Belongs l.board l.mine × g.R.Runner.PassFits (g.R.Runner.home l.runner) l.pass
