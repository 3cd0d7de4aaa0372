-- The numbers so far are the same.
use Rattle.std.proofs.Common.{◌-◌, ◌≤◌}
use Rattle.arena_graph.specs.Runs.{IsSameRun}
use Rattle.arena_graph.proofs.runs.same_run.Given as goal

abbrev pub invariant-loop-run : goal.invariant-loop-run
invariant-loop-run l = record {
  so_far : IsSameRun l.first l.second l.run;
  within : l.run ≤ l.most;
}

abbrev pub decreases-loop-run : goal.decreases-loop-run
decreases-loop-run l = l.most - l.run
