-- The laws are lemmas.
use Rattle.refutations.proofs.StepFaults.{placed}
use Rattle.refutations.proofs.laws.step.Goals as goal

pub returns-clause-place : goal.returns-clause-place
returns-clause-place c cs steps i cause is = (placed cs steps i cause is).place

pub returns-clause-not_empty : goal.returns-clause-not_empty
returns-clause-not_empty c cs steps i cause is = (placed cs steps i cause is).not_empty
