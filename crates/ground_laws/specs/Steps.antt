-- What the steps of a refutation of ground clauses derive, and where they have a fault: the same as the refutations in which variables are
-- replaced as well, without the proofs in LK.
--     derives, derives_all      what a step derives from clauses and earlier steps, and what all do
--     refuted      whether a list of steps is a refutation, or its first fault
--     res_step, sequents_of, without_proof      steps, clauses and faults of refutations that replace variables as well
--     names      a step resolves on an atom
use Rattle.std.specs.Prelude.{◌≡◌, ℕ, suc, ◌-◌, Bool, false, ◌&&◌, if◌then◌else◌, List, [], ◌∷◌, ◌++◌, length, map, slice_get, Option, Some, None, Result, Ok, Err}
use Rattle.std.specs.Ordering.{eq_by_cmp}
use Rattle.fol.specs.Syntax.{Formula}
use Rattle.fol.specs.Order.{formula_cmp}
use Rattle.finite.specs.Finite as set
use Rattle.lk_rules.specs.declared.sequent.Sequent.{Sequent}
use Rattle.lk_rules.specs.Sequents.{empty, same_sequents}
use Rattle.proof_trees.specs.Trees.{Tree}
use Rattle.refutations.specs.declared.clause.Clause.{Clause}
use Rattle.refutations.specs.declared.step.ResStep.{ResStep}
use Rattle.refutations.specs.declared.step.ResStep.TheVariants.{Input as ResInput, Resolve as ResResolve}
use Rattle.refutations.specs.declared.step.ResCause.{ResCause}
use Rattle.refutations.specs.declared.step.ResCause.TheVariants.{Reference, AtomMissing, NotEmpty}
use Rattle.refutations.specs.Clauses.{literals_of}
use Rattle.refutations.specs.Refutations.{resolvent}
use Rattle.ground_laws.specs.declared.step.SatStep.{SatStep}
use Rattle.ground_laws.specs.declared.step.SatStep.TheVariants.{Input, Resolve}

-- a number names a clause or an earlier step
abbrev pub referred : Option Sequent → (Sequent → Result Sequent ResCause) → Result Sequent ResCause
referred None use_it = Err Reference
referred (Some c) use_it = use_it c

-- the resolvent, where the atom is on the right of the first clause and on the left of the second
abbrev pub resolved_on : Formula → Sequent → Sequent → Result Sequent ResCause
resolved_on a p n = if set.has p.right a && set.has n.left a then Ok (resolvent p n a) else Err AtomMissing

-- what a step derives from clauses, after steps that derive these
abbrev pub derives : List Sequent → List Sequent → SatStep → Result Sequent ResCause
derives cs ds (Input i) = referred (slice_get cs i) (λ c. Ok c)
derives cs ds (Resolve p n a) = referred (slice_get ds p) (λ d. referred (slice_get ds n) (λ e. resolved_on a d e))

-- what a step's outcome does to the steps behind it
abbrev pub and_on : ℕ → Result Sequent ResCause → (Sequent → Result (List Sequent) (ℕ × ResCause)) → Result (List Sequent) (ℕ × ResCause)
and_on i (Ok d) go_on = go_on d
and_on i (Err cause) go_on = Err (i, cause)

-- what the steps from number i on derive, after steps that derive these, or the first faulty one
abbrev pub derives_all : List Sequent → List Sequent → ℕ → List SatStep → Result (List Sequent) (ℕ × ResCause)
derives_all cs ds i [] = Ok ds
derives_all cs ds i (step ∷ rest) = and_on i (derives cs ds step) (λ d. derives_all cs (ds ++ d ∷ []) (suc i) rest)

-- the clause of the last step has to be empty
abbrev pub concluded : ℕ → Option Sequent → Result (Unit {0}) (ℕ × ResCause)
concluded n None = Err (0, NotEmpty)
concluded n (Some d) = if same_sequents d empty then Ok tt else Err (n - 1, NotEmpty)

abbrev pub last_of : ℕ → Result (List Sequent) (ℕ × ResCause) → Result (Unit {0}) (ℕ × ResCause)
last_of n (Err fault) = Err fault
last_of n (Ok ds) = concluded n (slice_get ds (n - 1))

-- whether the steps refute the clauses, or the first faulty one
unfoldable pub refuted : List Sequent → List SatStep → Result (Unit {0}) (ℕ × ResCause)
refuted cs steps = last_of (length steps) (derives_all cs [] 0 steps)

-- steps without fault whose last clause is empty
abbrev pub IsRefutation : List Sequent → List SatStep → Type 0
IsRefutation cs steps = refuted cs steps ≡ Ok tt

-- the same step among those of refutations in which variables are replaced
abbrev pub res_step : SatStep → ResStep
res_step (Input i) = ResInput i
res_step (Resolve p n a) = ResResolve p n a

-- the literals of each clause
abbrev pub sequents_of : List Clause → List Sequent
sequents_of cs = map (λ (c : Clause). literals_of c.matrix) cs

-- the fault of a refutation with its proof, or that there is none
abbrev pub without_proof : Result Tree (ℕ × ResCause) → Result (Unit {0}) (ℕ × ResCause)
without_proof (Ok t) = Ok tt
without_proof (Err fault) = Err fault

-- whether the step resolves on this atom
abbrev pub names : Formula → SatStep → Bool
names f (Input i) = false
names f (Resolve p n a) = eq_by_cmp formula_cmp f a
