use Rattle.job_workers.proofs.Filling.{ArePartly}
use Rattle.job_workers.proofs.windows.run_rest.Given as goal

abbrev pub invariant-loop-place : goal.invariant-loop-place
invariant-loop-place g l =
    g.R.Runner.PassFits (g.R.Runner.home l.runner) l.pass
    × ArePartly g.R.Runner.sense g.R.Runner.Belongs (g.R.Runner.HeldFits (g.R.Runner.home l.runner)) l.tasks l.slots l.place
