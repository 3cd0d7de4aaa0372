-- The lanes before the first that differs are the same.
use Rattle.std.proofs.Common.{arith}
use Rattle.arena_graph.proofs.SameRuns.{lanes_run}
use Rattle.arena_graph.proofs.runs.same_lanes.Goals as goal

pub returns : goal.returns
returns c = lanes_run 8 (omega arith) c.args.first.now c.args.second.now c.requires.first c.requires.second c.first_set.result c.first_set.ensures
