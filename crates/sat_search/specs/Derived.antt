-- What the steps of a refutation derive, while they are made.
--     conclusions, known      the clauses that steps without fault derive
--     IsSound, IsDerived, AreDerived      steps without fault, and clauses that they derive
--     Derives      more steps, without fault, that derive a clause
use Rattle.std.specs.Prelude.{◌≡◌, List, [], length, slice_get, Option, Some, IfSome}
use Rattle.std.specs.Result.{result_unwrap_or}
use Rattle.std.specs.List.{All}
use Rattle.lk_rules.specs.declared.sequent.Sequent.{Sequent}
use Rattle.ground_laws.specs.declared.step.SatStep.{SatStep}
use Rattle.ground_laws.specs.Steps.{derives_all}
use Rattle.ground_laws.specs.Deciding.{Known, IsKnown}
use Rattle.sat_search.specs.declared.refuting.Derived.{Derived}

-- the clauses that steps derive, where they have no fault
unfoldable pub conclusions : List Sequent → List SatStep → List Sequent
conclusions cs steps = result_unwrap_or (derives_all cs [] 0 steps) []

-- the steps with these clauses
abbrev pub known : List Sequent → List SatStep → Known
known cs steps = record { steps = steps; clauses = conclusions cs steps }

-- the steps have no fault, and derive a clause each
pub record IsSound (cs : List Sequent) (steps : List SatStep) : Type 0 where
  pub known : IsKnown cs (known cs steps)
  pub many : length (conclusions cs steps) ≡ length steps

-- the step of this number derives the clause
abbrev pub IsDerived : List Sequent → List SatStep → Derived → Type 0
IsDerived cs steps d = slice_get (conclusions cs steps) d.step ≡ Some d.clause

-- those of a table
abbrev pub AreDerived : List Sequent → List SatStep → List (Option Derived) → Type 0
AreDerived cs steps ds = All (λ d. IfSome d (IsDerived cs steps)) ds

-- with more steps, which have no fault, what was derived still is, and so is d
pub record Derives (cs : List Sequent) (old new : List SatStep) (d : Derived) : Type 0 where
  pub sound : IsSound cs new
  pub keeps : (e : Derived) → IsDerived cs old e → IsDerived cs new e
  pub is : IsDerived cs new d
