-- The pass stays one of the graph.
use Rattle.proof_graph.specs.Graphs.{IsPassOf}
use Rattle.proof_tests.proofs.threads.assert_same_keys.Given as goal

abbrev pub invariant-loop-round : goal.invariant-loop-round
invariant-loop-round g l = IsPassOf l.graph l.pass
