-- The laws are lemmas.
use Rattle.unify_laws.proofs.Unified.{first_variable, other_variables}
use Rattle.unify_laws.proofs.Unrolled.{mgu-unrolled, mgu-within}
use Rattle.unify_laws.proofs.laws.steps.Goals as goal

pub returns-clause-difference : goal.returns-clause-difference
returns-clause-difference c = mgu-unrolled

pub returns-clause-variable : goal.returns-clause-variable
returns-clause-variable c = first_variable

pub returns-clause-others : goal.returns-clause-others
returns-clause-others c = other_variables

pub returns-clause-any_bound : goal.returns-clause-any_bound
returns-clause-any_bound c = mgu-within
