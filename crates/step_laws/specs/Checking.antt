-- Which step of a list is the first faulty one. A list with none is a proof of its last step's end sequent.
use Rattle.std.specs.Prelude.{◌≡◌, ◌<◌, ℕ, ◌+◌, nat_lt, List, [], ◌∷◌, length, slice_get, Option, Some, None, option_and_then, option_map, Result, Ok, Err, if◌then◌else◌}
use Rattle.std.specs.List.{All, list_all}
use Rattle.lk_rules.specs.declared.sequent.Sequent.{Sequent}
use Rattle.lk_rules.specs.declared.rule.Step.{Step}
use Rattle.lk_rules.specs.declared.inference.RuleFault.{RuleFault}
use Rattle.lk_rules.specs.Rules.{verdict_of, Row}
use Rattle.lk_rules.specs.Sequents.{empty}
use Rattle.step_laws.specs.declared.fault.StepCause.{StepCause}
use Rattle.step_laws.specs.declared.fault.StepCause.TheVariants.{Reference, Rule}

-- the end sequent of the step that stands as premise k, counted from 0
abbrev pub premise_end : List Step → List ℕ → ℕ → Option Sequent
premise_end steps premises k = option_and_then (λ p. option_map (λ s. s.end) (slice_get steps p)) (slice_get premises k)

abbrev pub rule_fault : Result (Unit {0}) RuleFault → Option StepCause
rule_fault (Ok _) = None
rule_fault (Err fault) = Some (Rule fault)

-- the first fault of a step at place i: a premise that is no earlier step comes before the faults of its rule
abbrev pub fault_of : List Step → ℕ → Step → Option StepCause
fault_of steps i step =
    if list_all (λ p. nat_lt p i) step.premises
    then rule_fault (verdict_of step.rule step.end (length step.premises) (premise_end steps step.premises 0) (premise_end steps step.premises 1))
    else Some Reference

-- what was found, or else what is found later
abbrev pub or_later : {A : Type 0} → Option A → Option A → Option A
or_later None later = later
or_later (Some found) later = Some found

-- the first fault among the steps from place i on, with its place
abbrev pub fault_from : List Step → ℕ → List Step → Option (ℕ × StepCause)
fault_from steps i [] = None
fault_from steps i (step ∷ rest) = or_later (option_map (λ cause. (i, cause)) (fault_of steps i step)) (fault_from steps (i + 1) rest)

abbrev pub first_fault : List Step → Option (ℕ × StepCause)
first_fault steps = fault_from steps 0 steps

-- the end sequent of the last step
abbrev pub last_end : List Step → Sequent
last_end [] = empty
last_end (step ∷ []) = step.end
last_end (step ∷ next ∷ rest) = last_end (next ∷ rest)

-- the step at place i is right: its premises are earlier steps, and it follows its rule over their end sequents
pub record IsRight (steps : List Step) (i : ℕ) (step : Step) : Type 0 where
  pub earlier : All (λ p. p < i) step.premises
  pub row : Row step.rule step.end (length step.premises) (premise_end steps step.premises 0) (premise_end steps step.premises 1)

-- each step is right
abbrev pub IsProof : List Step → Type 0
IsProof steps = (i : ℕ) (step : Step) → slice_get steps i ≡ Some step → IsRight steps i step

-- the first step that isn't right is at place i, and this is its first fault
pub record IsFirstFault (steps : List Step) (i : ℕ) (cause : StepCause) : Type 0 where
  pub before : (j : ℕ) (step : Step) → j < i → slice_get steps j ≡ Some step → IsRight steps j step
  pub step : Step
  pub there : slice_get steps i ≡ Some step
  pub fault : fault_of steps i step ≡ Some cause
