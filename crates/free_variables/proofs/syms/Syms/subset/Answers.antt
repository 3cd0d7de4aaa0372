-- The test of inclusion decides it.
use Rattle.std.proofs.Common.{rules}
use Rattle.fol.specs.OrderLaws.{pred_total}
use Rattle.free_variables.proofs.RisingLists.{subset_tested}
use Rattle.free_variables.proofs.syms.Syms.subset.Goals as goal

pub returns-clause-subset : goal.returns-clause-subset
returns-clause-subset c = subset_tested pred_total c.args.self.now c.args.other.now c.is_within.result (search rules)
