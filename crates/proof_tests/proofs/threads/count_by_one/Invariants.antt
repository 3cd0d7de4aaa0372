-- The pass stays one of the graph.
use Rattle.proof_graph.specs.Graphs.{IsPassOf}
use Rattle.proof_tests.proofs.threads.count_by_one.Given as goal

abbrev pub invariant-loop-block : goal.invariant-loop-block
invariant-loop-block g l = IsPassOf l.graph l.pass
