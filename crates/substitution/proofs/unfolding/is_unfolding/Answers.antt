-- The test decides equality.
use Rattle.substitution.proofs.Unfoldings.{just_same}
use Rattle.substitution.specs.Unfolding.{unf}
use Rattle.substitution.proofs.unfolding.is_unfolding.Goals as goal

pub returns-clause-same : goal.returns-clause-same
returns-clause-same c = just_same (unf c.args.formula.now) c.args.other.now c.is_unfolding_of.result c.is_unfolding_of.ensures
