use Rattle.std.proofs.Common.{◌≡◌, drop}
use Rattle.step_laws.specs.Checking.{fault_from}
use Rattle.lk_check.proofs.checking.find_fault.Given as goal

abbrev pub invariant-loop-place : goal.invariant-loop-place
invariant-loop-place l = fault_from l.steps 0 l.steps ≡ fault_from l.steps l.place (drop l.place l.steps)
