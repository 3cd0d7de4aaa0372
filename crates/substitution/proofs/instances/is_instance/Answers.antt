-- The test decides equality.
use Rattle.fol.proofs.OrderTies.{formula_equality_same}
use Rattle.substitution.specs.Instance.{inst}
use Rattle.substitution.proofs.instances.is_instance.Goals as goal

pub returns-clause-same : goal.returns-clause-same
returns-clause-same c = formula_equality_same (inst c.args.body.now c.args.term.now) c.args.formula.now c.is_instance_at.result c.is_instance_at.ensures
