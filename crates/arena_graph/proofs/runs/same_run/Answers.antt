-- A run goes on with a run of what is left.
use Rattle.std.proofs.Common.{arith}
use Rattle.arena_graph.proofs.SameRuns.{run_on, run_of_rest}
use Rattle.arena_graph.proofs.runs.same_run.Goals as goal

pub returns-then-more-lt-LANES : goal.returns-then-more-lt-LANES
returns-then-more-lt-LANES c =
    let xs = c.args.first.now in
    let ys = c.args.second.now in
    run_on xs ys c.loop-run.run c.same_lanes-more.result c.loop-run.invariant.so_far (run_of_rest xs ys c.loop-run.run c.loop-run.run c.same_lanes-more.result c.same_lanes-more.ensures)

pub loop-run-preserved : goal.loop-run-preserved
loop-run-preserved c =
    let xs = c.args.first.now in
    let ys = c.args.second.now in
    let longer = run_on xs ys c.loop-run.run c.same_lanes-more.result c.loop-run.invariant.so_far (run_of_rest xs ys c.loop-run.run c.loop-run.run c.same_lanes-more.result c.same_lanes-more.ensures) in
    record { so_far = longer; within = omega (arith, longer.first, longer.second, c.min-most.ensures) }

pub returns : goal.returns
returns c =
    let xs = c.args.first.now in
    let ys = c.args.second.now in
    run_on xs ys c.loop-run.run c.same_by_one.result c.loop-run.invariant.so_far (run_of_rest xs ys c.loop-run.run c.loop-run.run c.same_by_one.result c.same_by_one.ensures)
