-- The walk over the steps of a proof.
use Rattle.std.proofs.Common.{◌≡◌, ℕ, ◌+◌, ◌<◌, ◌≤◌, zero, suc, true, List, [], ◌∷◌, ◌++◌, length, get_or, drop, Bor, refl, sym, ap, ◌∙◌, subst, inl, inr, arith, add-one, drop-cons}
use Rattle.std.specs.Prelude.{Option, Some, None, IsSome, option_copied, option_map, slice_get, nat_lt}
use Rattle.std.specs.List.{list_all}
use Rattle.std.proofs.lemmas.Bool.{and_parts}
use Rattle.std.proofs.lemmas.Bool.Decides.{nat_tests}
use Rattle.std.proofs.lemmas.List.{drop_all}
use Rattle.std.proofs.lemmas.Option.{slice_get_cases}
use Rattle.lk_rules.specs.declared.sequent.Sequent.{Sequent}
use Rattle.lk_rules.specs.declared.rule.Step.{Step}
use Rattle.step_laws.specs.declared.fault.StepCause.{StepCause}
use Rattle.step_laws.specs.Checking.{premise_end, fault_of, fault_from, or_later, last_end}

below_by_test : (p i : ℕ) → nat_lt p i ≡ true → p < i
below_by_test p i h = grind (arith, nat_tests)

end_there : (steps : List Step) (p : ℕ) → p < length steps → IsSome (option_map (λ s. s.end) (slice_get steps p))
end_there steps p within = elim (slice_get_cases steps p).1 [
  | inl found ↦ subst (λ (o : Option Step). IsSome (option_map (λ s. s.end) o)) (sym found.2) refl
  | inr past ↦ absurd (omega (arith, past.0))
]

-- an earlier step's end sequent is there exactly where the premise is
premise_there : (steps : List Step) (i : ℕ) → i ≤ length steps → (premises : List ℕ) (k : ℕ) → list_all (λ p. nat_lt p i) premises ≡ true
    → (IsSome (premise_end steps premises k) → k < length premises) × (k < length premises → IsSome (premise_end steps premises k))
premise_there steps i within [] k earlier = (λ h. cc, λ h. absurd (omega arith))
premise_there steps i within (p ∷ ps) zero earlier =
    let below = below_by_test p i (and_parts (nat_lt p i) (list_all (λ q. nat_lt q i) ps) earlier).0 in
    (λ h. omega arith, λ h. end_there steps p (omega arith))
premise_there steps i within (p ∷ ps) (suc k) earlier =
    let rest = premise_there steps i within ps k (and_parts (nat_lt p i) (list_all (λ q. nat_lt q i) ps) earlier).1 in
    (λ h. let more : k < length ps = rest.0 h in omega arith, λ h. let more : k < length ps = omega arith in rest.1 more)

copied_there : (o : Option (Bor Sequent)) → (IsSome o → IsSome (option_copied o)) × (IsSome (option_copied o) → IsSome o)
copied_there None = (λ h. h, λ h. h)
copied_there (Some s) = (λ h. refl, λ h. refl)

pub there : (o : Option (Bor Sequent)) (steps : List Step) (i : ℕ) (premises : List ℕ) (k n : ℕ) → n ≡ k + 1 → option_copied o ≡ premise_end steps premises k
    → list_all (λ p. nat_lt p i) premises ≡ true → i < length steps
    → (IsSome o → n ≤ length premises) × (n ≤ length premises → IsSome o)
there o steps i premises k n one is earlier within =
    let both = premise_there steps i (omega arith) premises k earlier in (
      λ h. let more : k < length premises = both.0 (subst (λ (x : Option Sequent). IsSome x) is ((copied_there o).0 h)) in omega arith,
      λ h. let more : k < length premises = omega arith in (copied_there o).1 (subst (λ (x : Option Sequent). IsSome x) (sym is) (both.1 more)),
    )

pub here : (steps : List Step) (i : ℕ) (step : Step) → i < length steps → step ≡ get_or steps i step → drop i steps ≡ step ∷ drop (i + 1) steps
here steps i step within is = rw add-one (drop-cons steps i step within ∙ ap (λ s. s ∷ drop (suc i) steps) (sym is))

-- a fault is found at place i
pub walk_found : (steps : List Step) (i : ℕ) (step : Step) (cause : StepCause) → i < length steps → step ≡ get_or steps i step
    → fault_of steps i step ≡ Some cause → fault_from steps i (drop i steps) ≡ Some (i, cause)
walk_found steps i step cause within is fault =
    ap (fault_from steps i) (here steps i step within is)
    ∙ ap (λ o. or_later (option_map (λ (c : StepCause). (i, c)) o) (fault_from steps (i + 1) (drop (i + 1) steps))) fault

-- no fault is found there
pub walk_next : (steps : List Step) (i : ℕ) (step : Step) → i < length steps → step ≡ get_or steps i step
    → fault_of steps i step ≡ None → fault_from steps i (drop i steps) ≡ fault_from steps (i + 1) (drop (i + 1) steps)
walk_next steps i step within is fault =
    ap (fault_from steps i) (here steps i step within is)
    ∙ ap (λ o. or_later (option_map (λ (c : StepCause). (i, c)) o) (fault_from steps (i + 1) (drop (i + 1) steps))) fault

pub walk_end : (steps : List Step) (i : ℕ) → length steps ≤ i → fault_from steps i (drop i steps) ≡ None
walk_end steps i all = ap (fault_from steps i) (drop_all i steps all)

-- the last step of a list
pub last_end-push : (steps : List Step) (step : Step) → last_end (steps ++ step ∷ []) ≡ step.end
last_end-push [] step = refl
last_end-push (first ∷ []) step = refl
last_end-push (first ∷ second ∷ rest) step = last_end-push (second ∷ rest) step
