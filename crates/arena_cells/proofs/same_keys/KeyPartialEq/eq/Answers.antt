-- A test of equality is the test of keys.
use Rattle.number_hash.specs.Codes.{test_by}
use Rattle.arena_cells.specs.Keys.{coded_key}
use Rattle.arena_cells.proofs.same_keys.KeyPartialEq.eq.Goals as goal

pub returns-clause-value : goal.returns-clause-value
returns-clause-value c = test_by coded_key c.is_same.result c.args.self.now c.args.other.now c.is_same.ensures
