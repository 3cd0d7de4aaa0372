-- A step without a fault is right, and the walk over the steps finds the first that isn't.
use Rattle.std.proofs.Common.{◌≡◌, ℕ, ◌+◌, ◌<◌, ◌↔◌, zero, suc, Bool, true, false, cond, List, [], ◌∷◌, length, refl, sym, ap, ◌∙◌, subst, arith}
use Rattle.std.specs.Prelude.{Option, Some, None, IsNone, IfSome, IsOk, is_some, unwrap_or, option_map, slice_get, nat_lt, Result, Ok, Err}
use Rattle.std.specs.List.{list_all}
use Rattle.std.proofs.lemmas.Bool.Decides.{nat_tests}
use Rattle.std.proofs.lemmas.List.Sums.{AllPass-from_list_all, list_all-from_AllPass}
use Rattle.lk_rules.specs.declared.rule.Step.{Step}
use Rattle.lk_rules.specs.declared.inference.RuleFault.{RuleFault}
use Rattle.lk_rules.specs.Rules.{verdict_of}
use Rattle.lk_rules.proofs.Rows.{row_of, row_back}
use Rattle.step_laws.specs.declared.fault.StepCause.{StepCause}
use Rattle.step_laws.specs.declared.fault.StepCause.TheVariants.{Reference}
use Rattle.step_laws.specs.Checking.{premise_end, rule_fault, fault_of, or_later, fault_from, first_fault, IsRight, IsProof, IsFirstFault}

ok_by_fault : (v : Result (Unit {0}) RuleFault) → rule_fault v ≡ None → IsOk v
ok_by_fault (Ok u) h = refl
ok_by_fault (Err fault) h = cc

fault_by_ok : (v : Result (Unit {0}) RuleFault) → IsOk v → rule_fault v ≡ None
fault_by_ok (Ok u) h = refl
fault_by_ok (Err fault) h = cc

below_by_test : (p i : ℕ) → nat_lt p i ≡ true → p < i
below_by_test p i h = grind (arith, nat_tests)

test_by_below : (p i : ℕ) → p < i → nat_lt p i ≡ true
test_by_below p i h = grind (arith, nat_tests)

-- a step without a fault is right
pub right_of : (steps : List Step) (i : ℕ) (step : Step) → fault_of steps i step ≡ None → IsRight steps i step
right_of steps i step none = by_test (list_all (λ p. nat_lt p i) step.premises) refl none
  where
    verdict : Result (Unit {0}) RuleFault
    verdict = verdict_of step.rule step.end (length step.premises) (premise_end steps step.premises 0) (premise_end steps step.premises 1)

    by_test : (b : Bool) → list_all (λ p. nat_lt p i) step.premises ≡ b → cond b (rule_fault verdict) (Some Reference) ≡ None → IsRight steps i step
    by_test true earlier h = record {
      earlier = λ k d within. below_by_test _ i (AllPass-from_list_all (λ p. nat_lt p i) step.premises earlier k d within);
      row = row_of step.rule step.end (length step.premises) (premise_end steps step.premises 0) (premise_end steps step.premises 1) (ok_by_fault verdict h);
    }
    by_test false earlier h = cc

-- and a right step has none
pub no_fault : (steps : List Step) (i : ℕ) (step : Step) → IsRight steps i step → fault_of steps i step ≡ None
no_fault steps i step right =
    let verdict = verdict_of step.rule step.end (length step.premises) (premise_end steps step.premises 0) (premise_end steps step.premises 1) in
    let earlier = list_all-from_AllPass (λ p. nat_lt p i) step.premises (λ k d within. test_by_below _ i (right.earlier k d within)) in
    ap (λ (b : Bool). cond b (rule_fault verdict) (Some Reference)) earlier
    ∙ fault_by_ok verdict (row_back step.rule step.end (length step.premises) (premise_end steps step.premises 0) (premise_end steps step.premises 1) right.row)

-- what was found first, with its place
found_first : (i : ℕ) (o : Option StepCause) (later : Option (ℕ × StepCause)) → or_later (option_map (λ cause. (i, cause)) o) later ≡ None → (o ≡ None) × (later ≡ None)
found_first i None later h = (refl, h)
found_first i (Some cause) later h = cc

-- each step of a walk that finds nothing is right
all_right : (steps rest : List Step) (i : ℕ) → fault_from steps i rest ≡ None → (k : ℕ) (step : Step) → slice_get rest k ≡ Some step → IsRight steps (i + k) step
all_right steps [] i none k step there = cc
all_right steps (first ∷ rest) i none zero step there =
    let same : first ≡ step = cc in
    let sum : i ≡ i + 0 = omega arith in
    subst (λ (s : Step). IsRight steps (i + 0) s) same
    (subst (λ (n : ℕ). IsRight steps n first) sum (right_of steps i first (found_first i (fault_of steps i first) (fault_from steps (i + 1) rest) none).0))
all_right steps (first ∷ rest) i none (suc k) step there =
    let sum : (i + 1) + k ≡ i + suc k = omega arith in
    subst (λ (n : ℕ). IsRight steps n step) sum
    (all_right steps rest (i + 1) (found_first i (fault_of steps i first) (fault_from steps (i + 1) rest) none).1 k step there)

-- a walk over right steps finds nothing
none_found : (steps rest : List Step) (i : ℕ) → ((k : ℕ) (step : Step) → slice_get rest k ≡ Some step → IsRight steps (i + k) step) → fault_from steps i rest ≡ None
none_found steps [] i right = refl
none_found steps (first ∷ rest) i right =
    let sum : i + 0 ≡ i = omega arith in
    let here = no_fault steps i first (subst (λ (n : ℕ). IsRight steps n first) sum (right 0 first refl)) in
    ap (λ (o : Option StepCause). or_later (option_map (λ cause. (i, cause)) o) (fault_from steps (i + 1) rest)) here
    ∙ none_found steps rest (i + 1) (λ k step there. let later : i + suc k ≡ (i + 1) + k = omega arith in subst (λ (n : ℕ). IsRight steps n step) later (right (suc k) step there))

-- what a walk from place i finds is the first step that isn't right, and its first fault
record IsFound (steps rest : List Step) (i n : ℕ) (cause : StepCause) : Type 0 where
  pub k : ℕ
  pub place : n ≡ i + k
  pub before : (j : ℕ) (step : Step) → j < k → slice_get rest j ≡ Some step → IsRight steps (i + j) step
  pub step : Step
  pub there : slice_get rest k ≡ Some step
  pub fault : fault_of steps n step ≡ Some cause

place_of : (i n : ℕ) (c cause : StepCause) → ◌≡◌ {A = Option (ℕ × StepCause)} (Some (i, c)) (Some (n, cause)) → i ≡ n
place_of i n c cause e = ap (λ (o : Option (ℕ × StepCause)). (unwrap_or o (n, cause)).0) e

cause_of : (i n : ℕ) (c cause : StepCause) → ◌≡◌ {A = Option (ℕ × StepCause)} (Some (i, c)) (Some (n, cause)) → c ≡ cause
cause_of i n c cause e = ap (λ (o : Option (ℕ × StepCause)). (unwrap_or o (n, cause)).1) e

walk_finds : (steps rest : List Step) (i n : ℕ) (cause : StepCause) → fault_from steps i rest ≡ Some (n, cause) → IsFound steps rest i n cause
walk_finds steps [] i n cause found = cc
walk_finds steps (first ∷ rest) i n cause found = by_fault (fault_of steps i first) refl found (walk_finds steps rest (i + 1) n cause)
  where
    later_finds : fault_of steps i first ≡ None → IsFound steps rest (i + 1) n cause → IsFound steps (first ∷ rest) i n cause
    later_finds none later = record {
      k = suc later.k;
      place = later.place ∙ omega arith;
      before = earlier_right none later;
      step = later.step;
      there = later.there;
      fault = later.fault;
    }
      where
        earlier_right : fault_of steps i first ≡ None → (later : IsFound steps rest (i + 1) n cause) → (j : ℕ) (step : Step) → j < suc later.k → slice_get (first ∷ rest) j ≡ Some step → IsRight steps (i + j) step
        earlier_right none later zero step below there =
            let same : first ≡ step = cc in
            let sum : i ≡ i + 0 = omega arith in
            subst (λ (s : Step). IsRight steps (i + 0) s) same (subst (λ (n : ℕ). IsRight steps n first) sum (right_of steps i first none))
        earlier_right none later (suc j) step below there =
            let sum : (i + 1) + j ≡ i + suc j = omega arith in
            subst (λ (n : ℕ). IsRight steps n step) sum (later.before j step (omega arith) there)

    by_fault : (o : Option StepCause) → fault_of steps i first ≡ o → or_later (option_map (λ c. (i, c)) o) (fault_from steps (i + 1) rest) ≡ Some (n, cause)
        → (fault_from steps (i + 1) rest ≡ Some (n, cause) → IsFound steps rest (i + 1) n cause) → IsFound steps (first ∷ rest) i n cause
    by_fault None none found finds = later_finds none (finds found)
    by_fault (Some c) is found finds = record {
      k = 0;
      place = let same = place_of i n c cause found in omega arith;
      before = λ j step below there. absurd (omega arith);
      step = first;
      there = refl;
      fault = subst (λ (m : ℕ). fault_of steps m first ≡ Some cause) (place_of i n c cause found) (is ∙ ap Some (cause_of i n c cause found));
    }

none_of : (o : Option (ℕ × StepCause)) → IsNone o → o ≡ None
none_of None h = refl
none_of (Some x) h = cc

pub proof_by_value : (steps : List Step) (o : Option (ℕ × StepCause)) → o ≡ first_fault steps → IsNone o ↔ IsProof steps
proof_by_value steps o value = (
  λ none i step there. let sum : 0 + i ≡ i = omega arith in
      subst (λ (n : ℕ). IsRight steps n step) sum (all_right steps steps 0 (sym value ∙ none_of o none) i step there),
  λ proof. ap is_some (value ∙ none_found steps steps 0 (λ k step there. let sum : k ≡ 0 + k = omega arith in subst (λ (n : ℕ). IsRight steps n step) sum (proof k step there))),
)

pub first_by_value : (steps : List Step) (o : Option (ℕ × StepCause)) → o ≡ first_fault steps → IfSome o (λ found. IsFirstFault steps found.0 found.1)
first_by_value steps None value = tt
first_by_value steps (Some found) value =
    let walk = walk_finds steps steps 0 found.0 found.1 (sym value) in
    let place : walk.k ≡ found.0 = let p = walk.place in omega arith in
    record {
      before = λ j step below there. let sum : 0 + j ≡ j = omega arith in subst (λ (n : ℕ). IsRight steps n step) sum (walk.before j step (omega arith) there);
      step = walk.step;
      there = subst (λ (n : ℕ). slice_get steps n ≡ Some walk.step) place walk.there;
      fault = walk.fault;
    }
