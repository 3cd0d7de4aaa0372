-- Which number and which cause a refused refutation has.
use Rattle.std.proofs.Common.{◌≡◌, ℕ, suc, ◌+◌, ◌-◌, ◌<◌, ◌≤◌, ◌⊎◌, inl, inr, Bool, true, false, ◌&&◌, if◌then◌else◌, List, [], ◌∷◌, ◌++◌, length, length-append, refl, sym, ap, ◌∙◌, arith}
use Rattle.std.specs.Prelude.{Option, Some, None, slice_get, Result, Ok, Err}
use Rattle.std.proofs.lemmas.Option.{slice_get_cases, slice_get_within, none-some}
use Rattle.fol.specs.Syntax.{Formula}
use Rattle.finite.specs.Finite as set
use Rattle.lk_rules.specs.declared.sequent.Sequent.{Sequent}
use Rattle.lk_rules.specs.Sequents.{empty, same_sequents}
use Rattle.proof_trees.specs.Trees.{Tree}
use Rattle.refutations.specs.declared.clause.Clause.{Clause}
use Rattle.refutations.specs.declared.step.ResStep.{ResStep}
use Rattle.refutations.specs.declared.step.ResStep.TheVariants.{Input, Subst, Resolve}
use Rattle.refutations.specs.declared.step.ResCause.{ResCause}
use Rattle.refutations.specs.declared.step.ResCause.TheVariants.{AtomMissing, NotEmpty}
use Rattle.refutations.specs.Clauses.{closures}
use Rattle.refutations.specs.DerivedSteps.{image_of, resolved}
use Rattle.refutations.specs.Refutations.{Derived, of_input, of_resolution, referred, derives, and_on, derives_all, concluded, last_of, refutation}

-- the number and the cause of a fault
abbrev fault_or : {A : Type 0} → ℕ × ResCause → Result A (ℕ × ResCause) → ℕ × ResCause
fault_or f (Ok a) = f
fault_or f (Err e) = e

same_place : {A : Type 0} (i j : ℕ) (c d : ResCause) → ◌≡◌ {A = Result A (ℕ × ResCause)} (Err (i, c)) (Err (j, d)) → i ≡ j
same_place i j c d is = ap (λ r. (fault_or (j, d) r).0) is

same_cause : {A : Type 0} (i j : ℕ) (c d : ResCause) → ◌≡◌ {A = Result A (ℕ × ResCause)} (Err (i, c)) (Err (j, d)) → c ≡ d
same_cause i j c d is = ap (λ r. (fault_or (j, d) r).1) is

module _ (cs : List Clause) (g : Sequent) where
  -- a step by itself is never refused for a clause that isn't empty

  missing : (b : Bool) (d : Derived) → (if b then Ok d else Err AtomMissing) ≡ Err NotEmpty → ⊥
  missing true d is = cc
  missing false d is = cc

  no_input : (o : Option Clause) → referred o (λ c. Ok (of_input g c)) ≡ Err NotEmpty → ⊥
  no_input None is = cc
  no_input (Some c) is = cc

  no_image : (o : Option Derived) (f : Derived → Derived) → referred o (λ d. Ok (f d)) ≡ Err NotEmpty → ⊥
  no_image None f is = cc
  no_image (Some d) f is = cc

  no_resolution : (a : Formula) (o q : Option Derived) → referred o (λ p. referred q (λ n. of_resolution g p n a)) ≡ Err NotEmpty → ⊥
  no_resolution a None q is = cc
  no_resolution a (Some p) None is = cc
  no_resolution a (Some p) (Some n) is = missing (set.has p.clause.right a && set.has n.clause.left a) (resolved g p n a) is

  never_empty : (ds : List Derived) (step : ResStep) → derives cs g ds step ≡ Err NotEmpty → ⊥
  never_empty ds (Input i) is = no_input (slice_get cs i) is
  never_empty ds (Subst k m) is = no_image (slice_get ds k) (image_of m) is
  never_empty ds (Resolve p n a) is = no_resolution a (slice_get ds p) (slice_get ds n) is

  -- where steps from number i on are refused
  pub record IsWithin (i n j : ℕ) (cause : ResCause) : Type 0 where
    pub from : i ≤ j
    pub to : j < i + n
    pub other : cause ≡ NotEmpty → ⊥

  refused_at : (ds : List Derived) (i : ℕ) (step : ResStep) (rest : List ResStep) (j : ℕ) (cause : ResCause)
      → ((d : Derived) → derives_all cs g (ds ++ d ∷ []) (suc i) rest ≡ Err (j, cause) → IsWithin (suc i) (length rest) j cause)
      → (r : Result Derived ResCause) → derives cs g ds step ≡ r → and_on i r (λ d. derives_all cs g (ds ++ d ∷ []) (suc i) rest) ≡ Err (j, cause) → IsWithin i (length (step ∷ rest)) j cause
  refused_at ds i step rest j cause later (Ok d) given is =
      let w = later d is in record { from = omega (arith, w.from); to = omega (arith, w.to); other = w.other }
  refused_at ds i step rest j cause later (Err c) given is =
      let place : i ≡ j = same_place i j c cause is in
      let why : c ≡ cause = same_cause i j c cause is in
      record { from = omega (arith, place); to = omega (arith, place); other = λ e. never_empty ds step (given ∙ ap Err (why ∙ e)) }

  pub within_steps : (ds : List Derived) (i : ℕ) (steps : List ResStep) (j : ℕ) (cause : ResCause) → derives_all cs g ds i steps ≡ Err (j, cause) → IsWithin i (length steps) j cause
  within_steps ds i [] j cause is = cc
  within_steps ds i (step ∷ rest) j cause is =
      refused_at ds i step rest j cause (λ d. within_steps (ds ++ d ∷ []) (suc i) rest j cause) (derives cs g ds step) refl is

  -- as many clauses as steps are derived
  as_many_more : (ds : List Derived) (i : ℕ) (rest : List ResStep) (out : List Derived)
      → ((d : Derived) → derives_all cs g (ds ++ d ∷ []) (suc i) rest ≡ Ok out → length out ≡ length (ds ++ d ∷ []) + length rest)
      → (r : Result Derived ResCause) → and_on i r (λ d. derives_all cs g (ds ++ d ∷ []) (suc i) rest) ≡ Ok out → length out ≡ length ds + suc (length rest)
  as_many_more ds i rest out later (Ok d) is = omega (arith, later d is, length-append ds (d ∷ []))
  as_many_more ds i rest out later (Err c) is = cc

  pub as_many : (ds : List Derived) (i : ℕ) (steps : List ResStep) (out : List Derived) → derives_all cs g ds i steps ≡ Ok out → length out ≡ length ds + length steps
  as_many ds i [] out is =
      let same : ds ≡ out = cc in
      omega (arith, ap length same)
  as_many ds i (step ∷ rest) out is = as_many_more ds i rest out (λ d. as_many (ds ++ d ∷ []) (suc i) rest out) (derives cs g ds step) is

-- the number and the cause: of a step, or of a list with no step; and only the last step is refused for its clause
pub record IsPlaced (steps : List ResStep) (i : ℕ) (cause : ResCause) : Type 0 where
  pub place : (i < length steps) ⊎ ((steps ≡ []) × ((i ≡ 0) × (cause ≡ NotEmpty)))
  pub not_empty : cause ≡ NotEmpty → i ≡ length steps - 1

no_steps : (steps : List ResStep) → length steps ≡ 0 → steps ≡ []
no_steps [] e = refl
no_steps (step ∷ rest) e = absurd (omega (arith, e))

at_last : (steps : List ResStep) (d : Derived) (i : ℕ) (cause : ResCause) (b : Bool) → 0 < length steps
    → if◌then◌else◌ {A = Result Tree (ℕ × ResCause)} b (Ok d.tree) (Err (length steps - 1, NotEmpty)) ≡ Err (i, cause) → IsPlaced steps i cause
at_last steps d i cause true some is = cc
at_last steps d i cause false some is =
    let place : length steps - 1 ≡ i = same_place (length steps - 1) i NotEmpty cause is in
    record { place = inl (omega (arith, place, some)); not_empty = λ e. sym place }

nothing_there : (ds : List Derived) (n : ℕ) → length ds ≡ n → slice_get ds (n - 1) ≡ None → n ≡ 0
nothing_there ds n many none = elim (slice_get_cases ds (n - 1)).1 [
  | inl found ↦ absurd (none-some found.0 (sym none ∙ found.2))
  | inr past ↦ omega (arith, many, past.0)
]

at_end : (steps : List ResStep) (ds : List Derived) → length ds ≡ length steps → (o : Option Derived) (i : ℕ) (cause : ResCause) → slice_get ds (length steps - 1) ≡ o
    → concluded (length steps) o ≡ Err (i, cause) → IsPlaced steps i cause
at_end steps ds many None i cause at is =
    let place : 0 ≡ i = same_place 0 i NotEmpty cause is in
    let why : NotEmpty ≡ cause = same_cause 0 i NotEmpty cause is in
    let none : length steps ≡ 0 = nothing_there ds (length steps) many at in
    record { place = inr (no_steps steps none, (sym place, sym why)); not_empty = λ e. omega (arith, place, none) }
at_end steps ds many (Some d) i cause at is = at_last steps d i cause (same_sequents d.clause empty) (omega (arith, many, slice_get_within ds (length steps - 1) d at)) is

by_outcome : (cs : List Clause) (steps : List ResStep) (i : ℕ) (cause : ResCause) (r : Result (List Derived) (ℕ × ResCause)) → derives_all cs (closures cs) [] 0 steps ≡ r
    → last_of (length steps) r ≡ Err (i, cause) → IsPlaced steps i cause
by_outcome cs steps i cause (Ok ds) given is =
    let many = as_many cs (closures cs) [] 0 steps ds given in
    at_end steps ds (omega (arith, many)) (slice_get ds (length steps - 1)) i cause refl is
by_outcome cs steps i cause (Err fault) given is =
    let w = within_steps cs (closures cs) [] 0 steps i cause (given ∙ ap Err (ap (fault_or (i, cause)) is)) in
    record { place = inl (omega (arith, w.to)); not_empty = λ e. absurd (w.other e) }

pub placed : (cs : List Clause) (steps : List ResStep) (i : ℕ) (cause : ResCause) → refutation cs steps ≡ Err (i, cause) → IsPlaced steps i cause
unfolding refutation
placed cs steps i cause is = by_outcome cs steps i cause (derives_all cs (closures cs) [] 0 steps) refl is
