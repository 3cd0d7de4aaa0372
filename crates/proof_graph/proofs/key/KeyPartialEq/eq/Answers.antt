-- A test of equality is the test of nodes.
use Rattle.number_hash.specs.Codes.{test_by}
use Rattle.proof_graph.specs.Keys.{coded_node}
use Rattle.proof_graph.proofs.key.KeyPartialEq.eq.Goals as goal

pub returns-clause-value : goal.returns-clause-value
returns-clause-value c = test_by coded_node c.is_same_key.result _ _ c.is_same_key.ensures
