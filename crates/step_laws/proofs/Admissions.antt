-- What a list of steps is admitted as, and why it is refused.
use Rattle.std.proofs.Common.{◌≡◌, ℕ, ◌-◌, List, [], ◌∷◌, length, refl, sym, ap, ◌∙◌, subst, inl, inr, arith}
use Rattle.std.specs.Prelude.{Option, Some, None, slice_get, Ok, Err}
use Rattle.std.specs.List.{All}
use Rattle.std.proofs.lemmas.Bool.{cases_order}
use Rattle.std.proofs.lemmas.Option.{same_Some, none-some}
use Rattle.lk_rules.specs.declared.rule.Step.{Step}
use Rattle.lk_rules.specs.Rules.{IsFormedRule}
use Rattle.proof_trees.specs.Trees.{Tree, concl, IsValid}
use Rattle.step_laws.specs.declared.fault.StepCause.{StepCause}
use Rattle.step_laws.specs.declared.fault.AdmitFault.TheVariants as fault
use Rattle.step_laws.specs.Checking.{fault_of, first_fault, last_end, IsRight, IsProof, IsFirstFault}
use Rattle.step_laws.specs.StepTrees.{trees_of_steps, IsTreeOf}
use Rattle.step_laws.specs.Admission.{last_tree, admission_by, admission}
use Rattle.step_laws.proofs.RightSteps.{no_fault, proof_by_value, first_by_value}
use Rattle.step_laws.proofs.StepEnds.{tree_end, last_there}
use Rattle.step_laws.proofs.Admitted.{admitted, refused}
use Rattle.step_laws.proofs.ValidTrees.{valid_tree}

tree_there : (o : Option Tree) (t : Tree) → last_tree o ≡ Ok t → o ≡ Some t
tree_there None t is = cc
tree_there (Some s) t is = cc

no_tree : (o : Option Tree) → last_tree o ≡ Err fault.Empty → o ≡ None
no_tree None is = refl
no_tree (Some t) is = cc

never_refused : (o : Option Tree) (i : ℕ) (cause : StepCause) → last_tree o ≡ Err (fault.Step i cause) → ⊥
never_refused None i cause is = cc
never_refused (Some t) i cause is = cc

module _ (steps : List Step) where
  abbrev last : Option Tree
  last = slice_get (trees_of_steps steps) (length steps - 1)

  fault_by_proof : (o : Option (ℕ × StepCause)) → o ≡ first_fault steps → IsProof steps → o ≡ None
  fault_by_proof None value proof = refl
  fault_by_proof (Some found) value proof =
      let none = (proof_by_value steps (Some found) value).1 proof in cc

  none_by_proof : IsProof steps → first_fault steps ≡ None
  none_by_proof proof = fault_by_proof (first_fault steps) refl proof

  ok_by : (o : Option (ℕ × StepCause)) (t : Tree) → o ≡ first_fault steps → admission_by steps o ≡ Ok t → IsProof steps × IsTreeOf steps t
  ok_by None t value is = ((proof_by_value steps None value).0 refl, tree_there last t is)
  ok_by (Some found) t value is = cc

  empty_by : (o : Option (ℕ × StepCause)) → admission_by steps o ≡ Err fault.Empty → last ≡ None
  empty_by None is = no_tree last is
  empty_by (Some found) is = cc

  step_by : (o : Option (ℕ × StepCause)) (i : ℕ) (cause : StepCause) → o ≡ first_fault steps → admission_by steps o ≡ Err (fault.Step i cause) → IsFirstFault steps i cause
  step_by None i cause value is = absurd (never_refused last i cause is)
  step_by (Some found) i cause value is =
      let place : found.0 ≡ i = cc in
      let why : found.1 ≡ cause = cc in
      subst (IsFirstFault steps i) why (subst (λ (n : ℕ). IsFirstFault steps n found.1) place (first_by_value steps (Some found) value))

  pub tree_of_admission : (t : Tree) → admission steps ≡ Ok t → IsProof steps × IsTreeOf steps t
  unfolding admission
  tree_of_admission t is = ok_by (first_fault steps) t refl is

  pub admission_of_tree : (t : Tree) → IsProof steps × IsTreeOf steps t → admission steps ≡ Ok t
  admission_of_tree t both = admitted steps t (none_by_proof both.0) both.1

  pub valid_admission : (t : Tree) → All (λ s. IsFormedRule s.rule) steps → admission steps ≡ Ok t → IsValid t
  valid_admission t formed is = let both = tree_of_admission t is in valid_tree steps both.0 formed t both.1

  pub end_of_admission : (t : Tree) → admission steps ≡ Ok t → concl t ≡ last_end steps
  end_of_admission t is = tree_end steps t (tree_of_admission t is).1

  no_last : admission steps ≡ Err fault.Empty → last ≡ None
  unfolding admission
  no_last is = empty_by (first_fault steps) is

  pub step_of_admission : (i : ℕ) (cause : StepCause) → admission steps ≡ Err (fault.Step i cause) → IsFirstFault steps i cause
  unfolding admission
  step_of_admission i cause is = step_by (first_fault steps) i cause refl is

pub empty_of_admission : (steps : List Step) → admission steps ≡ Err fault.Empty → steps ≡ []
empty_of_admission [] is = refl
empty_of_admission (step ∷ rest) is =
    let there = last_there (step ∷ rest) (omega arith) in
    absurd (none-some there.0 (sym (no_last (step ∷ rest) is) ∙ there.1))

-- a right step is no faulty one
not_both : (steps : List Step) (i : ℕ) (step : Step) (cause : StepCause) → IsRight steps i step → fault_of steps i step ≡ Some cause → ⊥
not_both steps i step cause right fault = none-some cause (sym (no_fault steps i step right) ∙ fault)

-- there is at most one first fault
same_fault : (steps : List Step) (i j : ℕ) (cause other : StepCause) → IsFirstFault steps i cause → IsFirstFault steps j other → ◌≡◌ {A = Option (ℕ × StepCause)} (Some (i, cause)) (Some (j, other))
same_fault steps i j cause other first second = elim (cases_order i j) [
  | inl same ↦
      let step : first.step ≡ second.step = same_Some first.step second.step (sym first.there ∙ ap (slice_get steps) same ∙ second.there) in
      let why : cause ≡ other = same_Some cause other (sym first.fault ∙ (λ k. fault_of steps (same k) (step k)) ∙ second.fault) in
      λ k. Some (same k, why k)
  | inr (inl less) ↦ absurd (not_both steps i first.step cause (second.before i first.step less first.there) first.fault)
  | inr (inr more) ↦ absurd (not_both steps j second.step other (first.before j second.step more second.there) second.fault)
]

first_by : (steps : List Step) (o : Option (ℕ × StepCause)) (i : ℕ) (cause : StepCause) → o ≡ first_fault steps → IsFirstFault steps i cause → o ≡ Some (i, cause)
first_by steps None i cause value first =
    absurd (not_both steps i first.step cause ((proof_by_value steps None value).0 refl i first.step first.there) first.fault)
first_by steps (Some found) i cause value first = same_fault steps found.0 i found.1 cause (first_by_value steps (Some found) value) first

pub admission_of_step : (steps : List Step) (i : ℕ) (cause : StepCause) → IsFirstFault steps i cause → admission steps ≡ Err (fault.Step i cause)
admission_of_step steps i cause first = refused steps i cause (first_by steps (first_fault steps) i cause refl first)
