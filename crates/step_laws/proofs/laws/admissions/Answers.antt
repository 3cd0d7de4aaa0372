-- The laws are lemmas.
use Rattle.step_laws.proofs.Admitted.{no_steps}
use Rattle.step_laws.proofs.Admissions.{tree_of_admission, admission_of_tree, valid_admission, end_of_admission, empty_of_admission, step_of_admission, admission_of_step}
use Rattle.step_laws.proofs.laws.admissions.Goals as goal

pub returns-clause-valid : goal.returns-clause-valid
returns-clause-valid c steps t formed is = valid_admission steps t formed is

pub returns-clause-end : goal.returns-clause-end
returns-clause-end c steps t is = end_of_admission steps t is

pub returns-clause-tree : goal.returns-clause-tree
returns-clause-tree c steps t = (tree_of_admission steps t, admission_of_tree steps t)

pub returns-clause-empty : goal.returns-clause-empty
returns-clause-empty c steps = (empty_of_admission steps, no_steps steps)

pub returns-clause-step : goal.returns-clause-step
returns-clause-step c steps i cause = (step_of_admission steps i cause, admission_of_step steps i cause)
