-- What steps without fault derive: one more step, all inputs, and the steps up to some number.
use Rattle.std.proofs.Common.{◌≡◌, ℕ, zero, suc, ◌+◌, ◌-◌, ◌<◌, ◌⊎◌, inl, inr, if◌then◌else◌, List, [], ◌∷◌, ◌++◌, length, take, length-append, append_assoc, append-nil, refl, sym, ap, subst, ◌∙◌, arith}
use Rattle.std.specs.Prelude.{Some, slice_get, Result, Ok, Err}
use Rattle.std.proofs.lemmas.Option.{slice_get_cases, slice_get_within}
use Rattle.std.proofs.lemmas.List.{length-take-le}
use Rattle.lk_rules.specs.declared.sequent.Sequent.{Sequent}
use Rattle.lk_rules.specs.Sequents.{empty, same_sequents}
use Rattle.lk_rules.proofs.Subsequents.{sequents_equality_same}
use Rattle.refutations.specs.declared.step.ResCause.{ResCause}
use Rattle.refutations.specs.declared.step.ResCause.TheVariants.{NotEmpty}
use Rattle.ground_laws.specs.declared.step.SatStep.{SatStep}
use Rattle.ground_laws.specs.Steps.{referred, derives, and_on, derives_all, concluded, last_of, refuted, IsRefutation}
use Rattle.ground_laws.specs.Deciding.{Known, IsKnown, inputs_from, inputs, with_step}

-- places of lists

-- what stands in the one list stands at the same place of the other
abbrev pub Keeps : List Sequent → List Sequent → Type 0
Keeps xs ys = (i : ℕ) (c : Sequent) → slice_get xs i ≡ Some c → slice_get ys i ≡ Some c

pub kept_front : (xs ys : List Sequent) → Keeps xs (xs ++ ys)
kept_front [] ys i c at = cc
kept_front (x ∷ xs) ys zero c at = at
kept_front (x ∷ xs) ys (suc i) c at = kept_front xs ys i c at

pub at_end : (xs : List Sequent) (c : Sequent) (ys : List Sequent) → slice_get (xs ++ c ∷ ys) (length xs) ≡ Some c
at_end [] c ys = refl
at_end (x ∷ xs) c ys = at_end xs c ys

-- an element of a longer list is an old one or the new one
pub old_or_new : (xs : List Sequent) (d : Sequent) (i : ℕ) (c : Sequent) → slice_get (xs ++ d ∷ []) i ≡ Some c → (slice_get xs i ≡ Some c) ⊎ (d ≡ c)
old_or_new [] d zero c at = inr cc
old_or_new [] d (suc i) c at = cc
old_or_new (x ∷ xs) d zero c at = inl at
old_or_new (x ∷ xs) d (suc i) c at = old_or_new xs d i c at

-- below its length, a list has what it keeps
kept_back : (xs ys : List Sequent) → Keeps xs ys → (i : ℕ) (c : Sequent) → i < length xs → slice_get ys i ≡ Some c → slice_get xs i ≡ Some c
kept_back xs ys keeps i c below at = elim (slice_get_cases xs i).1 [
  | inl found ↦ found.2 ∙ sym (keeps i found.0 found.2) ∙ at
  | inr past ↦ absurd (omega (arith, past.0, below))
]

module _ (cs : List Sequent) where
  -- what clauses are kept

  kept_more : (ds : List Sequent) (i : ℕ) (rest : List SatStep) (out : List Sequent) → ((d : Sequent) → derives_all cs (ds ++ d ∷ []) (suc i) rest ≡ Ok out → Keeps (ds ++ d ∷ []) out)
      → (r : Result Sequent ResCause) → and_on i r (λ d. derives_all cs (ds ++ d ∷ []) (suc i) rest) ≡ Ok out → Keeps ds out
  kept_more ds i rest out later (Ok d) is = λ j c at. later d is j c (kept_front ds (d ∷ []) j c at)
  kept_more ds i rest out later (Err cause) is = cc

  kept_by : (ds : List Sequent) (i : ℕ) (steps : List SatStep) (out : List Sequent) → derives_all cs ds i steps ≡ Ok out → Keeps ds out
  kept_by ds i [] out is = let same : ds ≡ out = cc in λ j c at. subst (λ es. slice_get es j ≡ Some c) same at
  kept_by ds i (step ∷ rest) out is = kept_more ds i rest out (λ d. kept_by (ds ++ d ∷ []) (suc i) rest out) (derives cs ds step) is

  -- as many as there are steps
  many_more : (ds : List Sequent) (i : ℕ) (rest : List SatStep) (out : List Sequent) → ((d : Sequent) → derives_all cs (ds ++ d ∷ []) (suc i) rest ≡ Ok out → length out ≡ length (ds ++ d ∷ []) + length rest)
      → (r : Result Sequent ResCause) → and_on i r (λ d. derives_all cs (ds ++ d ∷ []) (suc i) rest) ≡ Ok out → length out ≡ length ds + suc (length rest)
  many_more ds i rest out later (Ok d) is = omega (arith, later d is, length-append ds (d ∷ []))
  many_more ds i rest out later (Err cause) is = cc

  as_many : (ds : List Sequent) (i : ℕ) (steps : List SatStep) (out : List Sequent) → derives_all cs ds i steps ≡ Ok out → length out ≡ length ds + length steps
  as_many ds i [] out is = let same : ds ≡ out = cc in omega (arith, ap length same)
  as_many ds i (step ∷ rest) out is = many_more ds i rest out (λ d. as_many (ds ++ d ∷ []) (suc i) rest out) (derives cs ds step) is

  -- one more step

  pushed_more : (ds : List Sequent) (i : ℕ) (rest : List SatStep) (step : SatStep) (mid : List Sequent) (c : Sequent)
      → ((d : Sequent) → derives_all cs (ds ++ d ∷ []) (suc i) rest ≡ Ok mid → derives_all cs (ds ++ d ∷ []) (suc i) (rest ++ step ∷ []) ≡ Ok (mid ++ c ∷ []))
      → (r : Result Sequent ResCause) → and_on i r (λ d. derives_all cs (ds ++ d ∷ []) (suc i) rest) ≡ Ok mid → and_on i r (λ d. derives_all cs (ds ++ d ∷ []) (suc i) (rest ++ step ∷ [])) ≡ Ok (mid ++ c ∷ [])
  pushed_more ds i rest step mid c later (Ok d) is = later d is
  pushed_more ds i rest step mid c later (Err cause) is = cc

  pushed : (ds : List Sequent) (i : ℕ) (steps : List SatStep) (step : SatStep) (mid : List Sequent) (c : Sequent) → derives_all cs ds i steps ≡ Ok mid → derives cs mid step ≡ Ok c
      → derives_all cs ds i (steps ++ step ∷ []) ≡ Ok (mid ++ c ∷ [])
  pushed ds i [] step mid c is gives =
      let same : ds ≡ mid = cc in
      ap (λ r. and_on i r (λ d. Ok (ds ++ d ∷ []))) (ap (λ es. derives cs es step) same ∙ gives) ∙ λ j. Ok (same j ++ c ∷ [])
  pushed ds i (first ∷ rest) step mid c is gives = pushed_more ds i rest step mid c (λ d e. pushed (ds ++ d ∷ []) (suc i) rest step mid c e gives) (derives cs ds first) is

  pub known_step : (k : Known) (step : SatStep) (c : Sequent) → IsKnown cs k → derives cs k.clauses step ≡ Ok c → IsKnown cs (with_step k step c)
  known_step k step c known gives = pushed [] 0 k.steps step k.clauses c known gives

  -- each clause by a step

  inputs_known_from : (front rest : List Sequent) (i : ℕ) → front ++ rest ≡ cs → i ≡ length front → derives_all cs front i (inputs_from i rest) ≡ Ok cs
  inputs_known_from front [] i whole here = ap Ok (sym (append-nil front) ∙ whole)
  inputs_known_from front (c ∷ rest) i whole here =
      let found : slice_get cs i ≡ Some c = ap (λ es. slice_get es i) (sym whole) ∙ ap (slice_get (front ++ c ∷ rest)) here ∙ at_end front c rest in
      ap (λ o. and_on i (referred o (λ d. Ok d)) (λ d. derives_all cs (front ++ d ∷ []) (suc i) (inputs_from (suc i) rest))) found
      ∙ inputs_known_from (front ++ c ∷ []) rest (suc i) (append_assoc front (c ∷ []) rest ∙ whole) (omega (arith, here, length-append front (c ∷ [])))

  pub inputs_known : IsKnown cs (inputs cs)
  inputs_known = inputs_known_from [] cs 0 refl refl

  -- the steps up to some number

  pub record Begins (ds : List Sequent) (i k : ℕ) (steps : List SatStep) (out : List Sequent) : Type 0 where
    pub derived : List Sequent
    pub is : derives_all cs ds i (take k steps) ≡ Ok derived
    pub same : (j : ℕ) (c : Sequent) → j < length ds + k → slice_get out j ≡ Some c → slice_get derived j ≡ Some c

  begins_more : (ds : List Sequent) (i k : ℕ) (rest : List SatStep) (out : List Sequent) → ((d : Sequent) → derives_all cs (ds ++ d ∷ []) (suc i) rest ≡ Ok out → Begins (ds ++ d ∷ []) (suc i) k rest out)
      → (step : SatStep) (r : Result Sequent ResCause) → derives cs ds step ≡ r → and_on i r (λ d. derives_all cs (ds ++ d ∷ []) (suc i) rest) ≡ Ok out → Begins ds i (suc k) (step ∷ rest) out
  begins_more ds i k rest out later step (Ok d) gives is =
      let b = later d is in
      record {
        derived = b.derived;
        is = ap (λ r. and_on i r (λ e. derives_all cs (ds ++ e ∷ []) (suc i) (take k rest))) gives ∙ b.is;
        same = λ j c below at. b.same j c (omega (arith, below, length-append ds (d ∷ []))) at;
      }
  begins_more ds i k rest out later step (Err cause) gives is = cc

  begins : (ds : List Sequent) (i k : ℕ) (steps : List SatStep) (out : List Sequent) → derives_all cs ds i steps ≡ Ok out → Begins ds i k steps out
  begins ds i zero steps out is = record { derived = ds; is = refl; same = λ j c below at. kept_back ds out (kept_by ds i steps out is) j c (omega (arith, below)) at }
  begins ds i (suc k) [] out is = record { derived = ds; is = refl; same = λ j c below at. let same : ds ≡ out = cc in subst (λ es. slice_get es j ≡ Some c) (sym same) at }
  begins ds i (suc k) (step ∷ rest) out is = begins_more ds i k rest out (λ d. begins (ds ++ d ∷ []) (suc i) k rest out) step (derives cs ds step) refl is

  -- steps whose last clause is empty
  ends_empty : (steps : List SatStep) (n : ℕ) (ds : List Sequent) → length steps ≡ suc n → derives_all cs [] 0 steps ≡ Ok ds → slice_get ds n ≡ Some empty → IsRefutation cs steps
  unfolding refuted
  ends_empty steps n ds many is at =
      let last : slice_get ds (length steps - 1) ≡ Some empty = ap (slice_get ds) (omega (arith, many)) ∙ at in
      ap (last_of (length steps)) is ∙ ap (concluded (length steps)) last
      ∙ ap (λ b. if◌then◌else◌ {A = Result (Unit {0}) (ℕ × ResCause)} b (Ok tt) (Err (length steps - 1, NotEmpty))) ((sequents_equality_same empty empty (same_sequents empty empty) refl).1 refl)

  -- the steps up to one whose clause is empty are a refutation
  pub cut : (k : Known) (n : ℕ) → IsKnown cs k → slice_get k.clauses n ≡ Some empty → IsRefutation cs (take (suc n) k.steps)
  cut k n known at =
      let b = begins [] 0 (suc n) k.steps k.clauses known in
      let long = as_many [] 0 k.steps k.clauses known in
      let within = slice_get_within k.clauses n empty at in
      ends_empty (take (suc n) k.steps) n b.derived (length-take-le (suc n) k.steps (omega (arith, long, within))) b.is (b.same n empty (omega arith) at)
