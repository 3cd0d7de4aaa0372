use Rattle.step_laws.proofs.RightSteps.{proof_by_value, first_by_value}
use Rattle.lk_check.proofs.checking.first_fault.Goals as goal

pub returns-clause-proof : goal.returns-clause-proof
returns-clause-proof c = proof_by_value c.args.steps.now c.find_fault.result c.find_fault.ensures

pub returns-clause-first : goal.returns-clause-first
returns-clause-first c = first_by_value c.args.steps.now c.find_fault.result c.find_fault.ensures
