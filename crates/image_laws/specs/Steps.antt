-- What the steps of a refutation derive.
--     all_derived      what they derive
--     AreDerived      no step is faulty
use Rattle.std.specs.Prelude.{◌≡◌, ℕ, List, [], Result, Ok, Err}
use Rattle.refutations.specs.declared.clause.Clause.{Clause}
use Rattle.refutations.specs.declared.step.ResStep.{ResStep}
use Rattle.refutations.specs.declared.step.ResCause.{ResCause}
use Rattle.refutations.specs.Clauses.{closures}
use Rattle.refutations.specs.Refutations.{Derived, derives_all}

-- what was derived, or nothing where a step is faulty
abbrev pub derived_in : Result (List Derived) (ℕ × ResCause) → List Derived
derived_in (Ok ds) = ds
derived_in (Err fault) = []

-- what the steps derive
abbrev pub all_derived : List Clause → List ResStep → List Derived
all_derived cs steps = derived_in (derives_all cs (closures cs) [] 0 steps)

-- no step is faulty
pub record AreDerived (cs : List Clause) (steps : List ResStep) : Type 0 where
  pub derived : List Derived
  pub each : derives_all cs (closures cs) [] 0 steps ≡ Ok derived
