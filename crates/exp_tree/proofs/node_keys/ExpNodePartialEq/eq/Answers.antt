-- A test of equality is the test of nodes.
use Rattle.number_hash.specs.Codes.{test_by}
use Rattle.exp_tree.specs.Tables.{coded_node}
use Rattle.exp_tree.proofs.node_keys.ExpNodePartialEq.eq.Goals as goal

pub returns-clause-value : goal.returns-clause-value
returns-clause-value c = test_by coded_node c.is_same.result c.args.self.now c.args.other.now c.is_same.ensures
