-- What is found of a refutation, beside what is to be found.
--     FindsClause, FindsClauses, Refutes      the clauses of one step, of several, and of a refutation
--     IsFound      a step derives a clause
use Rattle.std.specs.Prelude.{◌≡◌, ℕ, ◌-◌, List, [], map, length, slice_get, Some, Result, Ok, Err}
use Rattle.std.specs.List.{All}
use Rattle.lk_rules.specs.declared.sequent.Sequent.{Sequent}
use Rattle.arena_cells.specs.Items.{Item}
use Rattle.arena_cells.specs.Standing.{HasSequent, sequent_at, IsSequentAt}
use Rattle.refutations.specs.declared.clause.Clause.{Clause}
use Rattle.refutations.specs.declared.step.ResStep.{ResStep}
use Rattle.refutations.specs.declared.step.ResCause.{ResCause}
use Rattle.refutations.specs.Clauses.{closures}
use Rattle.refutations.specs.Refutations.{Derived, derives_all, refutation}
use Rattle.arena_refutations.specs.declared.faults.ImportFault.{ImportFault}
use Rattle.arena_refutations.specs.declared.faults.ImportFault.TheVariants as import_fault
use Rattle.arena_refutations.specs.declared.faults.StepFault.{StepFault}
use Rattle.arena_refutations.specs.declared.faults.StepFault.TheVariants as step_fault

-- the number is that of the clause that a step is to derive, unless memory runs out
abbrev pub FindsClause : List Item → Result ℕ StepFault → Result Derived ResCause → Type 0
FindsClause a (Ok n) (Ok d) = HasSequent a n d.clause
FindsClause a (Ok n) (Err cause) = ⊥
FindsClause a (Err step_fault.Memory) wanted = Unit {0}
FindsClause a (Err (step_fault.Cause cause)) wanted = wanted ≡ Err cause

-- the numbers are those of derived clauses
pub record AreClausesAt (a : List Item) (ns : List ℕ) (ds : List Derived) : Type 0 where
  pub there : All (IsSequentAt a) ns
  pub same : map (sequent_at a) ns ≡ map (λ d. d.clause) ds

-- the numbers, seen by view, are those of the clauses that all steps are to derive, unless memory runs out
abbrev pub FindsClauses : {X : Type 0} → (X → List ℕ) → List Item → Result X ImportFault → Result (List Derived) (ℕ × ResCause) → Type 0
FindsClauses view a (Ok ns) (Ok ds) = AreClausesAt a (view ns) ds
FindsClauses view a (Ok ns) (Err fault) = ⊥
FindsClauses view a (Err import_fault.Memory) wanted = Unit {0}
FindsClauses view a (Err (import_fault.Step i cause)) wanted = wanted ≡ Err (i, cause)

-- the steps refute the clauses, and the numbers are those of the clauses that they derive
pub record IsRefuted (a : List Item) (cs : List Clause) (steps : List ResStep) (ns : List ℕ) : Type 0 where
  pub derived : List Derived
  pub each : derives_all cs (closures cs) [] 0 steps ≡ Ok derived
  pub clauses : AreClausesAt a ns derived
  pub last : Derived
  pub at : slice_get derived (length steps - 1) ≡ Some last
  pub whole : refutation cs steps ≡ Ok last.tree

-- so it is, or there is the first faulty step, unless memory runs out
abbrev pub Refutes : {X : Type 0} → (X → List ℕ) → List Item → Result X ImportFault → List Clause → List ResStep → Type 0
Refutes view a (Ok ns) cs steps = IsRefuted a cs steps (view ns)
Refutes view a (Err import_fault.Memory) cs steps = Unit {0}
Refutes view a (Err (import_fault.Step i cause)) cs steps = refutation cs steps ≡ Err (i, cause)

-- the step derives this clause
abbrev pub IsFound : Sequent → Result Derived ResCause → Type 0
IsFound s (Ok d) = d.clause ≡ s
IsFound s (Err cause) = ⊥
