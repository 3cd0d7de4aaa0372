-- The laws are lemmas.
use Rattle.def_laws.proofs.FlatUnfoldings.{flat-unf, flat_universal, flat_existential}
use Rattle.def_laws.proofs.StepByStep.{flat_unfolds, unfolds_alike}
use Rattle.def_laws.proofs.laws.unfolding_step_by_step.Goals as goal

pub returns-clause-atom : goal.returns-clause-atom
returns-clause-atom c = flat-unf

pub returns-clause-universal : goal.returns-clause-universal
returns-clause-universal c = flat_universal

pub returns-clause-existential : goal.returns-clause-existential
returns-clause-existential c = flat_existential

pub returns-clause-steps : goal.returns-clause-steps
returns-clause-steps c = flat_unfolds

pub returns-clause-nothing_else : goal.returns-clause-nothing_else
returns-clause-nothing_else c = unfolds_alike
