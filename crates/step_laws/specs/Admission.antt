-- When a list of steps is refused.
use Rattle.std.specs.Prelude.{◌≡◌, ◌≢◌, ◌-◌, ℕ, List, [], length, slice_get, Option, Some, None, Result, Ok, Err}
use Rattle.proof_trees.specs.Trees.{Tree}
use Rattle.step_laws.specs.declared.fault.StepCause.{StepCause}
use Rattle.step_laws.specs.StepTrees.{trees_of_steps}
use Rattle.lk_rules.specs.declared.rule.Step.{Step}
use Rattle.step_laws.specs.declared.fault.AdmitFault.{AdmitFault}
use Rattle.step_laws.specs.declared.fault.AdmitFault.TheVariants as fault
use Rattle.step_laws.specs.Checking.{first_fault, IsProof, IsFirstFault}

-- the fault is that of the steps. Memory is wanted only for a proof
abbrev pub IsFault : List Step → AdmitFault → Type 0
IsFault steps fault.Empty = steps ≡ []
IsFault steps (fault.Step i cause) = IsFirstFault steps i cause
IsFault steps fault.Memory = (steps ≢ []) × IsProof steps

-- the last tree, if there is one
abbrev pub last_tree : Option Tree → Result Tree AdmitFault
last_tree None = Err fault.Empty
last_tree (Some t) = Ok t

abbrev pub admission_by : List Step → Option (ℕ × StepCause) → Result Tree AdmitFault
admission_by steps None = last_tree (slice_get (trees_of_steps steps) (length steps - 1))
admission_by steps (Some found) = Err (fault.Step found.0 found.1)

-- what a list of steps is: the tree of its last step, or the reason why it is refused
unfoldable pub admission : List Step → Result Tree AdmitFault
admission steps = admission_by steps (first_fault steps)
