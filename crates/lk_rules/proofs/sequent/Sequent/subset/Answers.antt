-- The test of subsequents decides the fact.
use Rattle.std.proofs.Common.{rules}
use Rattle.lk_rules.proofs.Subsequents.{subsequent_tested}
use Rattle.lk_rules.proofs.sequent.Sequent.subset.Goals as goal

pub returns-then-subset-clause-subsequent : goal.returns-then-subset-clause-subsequent
returns-then-subset-clause-subsequent c = subsequent_tested c.args.self.now c.args.other.now c.subset-then-subset.result (search rules)

pub returns-else-subset-clause-subsequent : goal.returns-else-subset-clause-subsequent
returns-else-subset-clause-subsequent c = subsequent_tested c.args.self.now c.args.other.now c.subset.result (search rules)
