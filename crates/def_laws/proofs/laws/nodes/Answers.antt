-- The laws are lemmas.
use Rattle.std.proofs.Common.{arith}
use Rattle.def_laws.proofs.NodeLaws.{nesting_kept, nesting_below_nodes}
use Rattle.def_laws.proofs.laws.nodes.Goals as goal

pub returns-clause-quantifiers : goal.returns-clause-quantifiers
returns-clause-quantifiers c = λ f. omega (arith, nesting_below_nodes f)

pub returns-clause-unfolded : goal.returns-clause-unfolded
returns-clause-unfolded c = nesting_kept
