-- The law is a lemma.
use Rattle.free_variables.proofs.FreshVariables.{least_outside_is}
use Rattle.free_variables.proofs.laws.least_fresh_variable.Goals as goal

pub returns : goal.returns
returns c = least_outside_is
