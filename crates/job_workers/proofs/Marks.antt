-- The marks and the slots of a board after one more event.
use Rattle.std.proofs.Common.{◌≡◌, ◌≢◌, ℕ, ◌+◌, ◌*◌, ◌<◌, ◌==◌, ◌||◌, ◌⊎◌, Bool, true, false, if◌then◌else◌, List, [], ◌∷◌, ◌++◌, length, set, get_or, refl, sym, ap, ◌∙◌, subst, inl, inr, arith}
use Rattle.std.specs.Prelude.{Option, Some, None, is_some}
use Rattle.std.specs.List.{count_by}
use Rattle.std.proofs.Math.Bool.{or-false}
use Rattle.std.proofs.lemmas.Bool.Decides.{eqb_tells}
use Rattle.std.proofs.lemmas.List.{length-set, get_or-set_same, get_or-set_other, length_push}
use Rattle.std.proofs.lemmas.List.Sums.{count_by-le-length, sum_by-set}
use Rattle.job_workers.specs.declared.events.Event.{Event}
use Rattle.job_workers.specs.declared.events.Event.TheVariants.{Take, Put}
use Rattle.job_workers.specs.Events.{is_taken, put_of, is_done}
use Rattle.job_workers.specs.Records.{slot_at, Agree}
use Rattle.job_workers.proofs.Growth.{is_taken_last, put_of_append}

-- one more that passes the test
pub count_by_set : {X : Type 0} (p : X → Bool) (xs : List X) (i : ℕ) (y d : X) → i < length xs → p (get_or xs i d) ≡ false → p y ≡ true
    → count_by p (set xs i y) ≡ count_by p xs + 1
count_by_set p xs i y d within old new =
    let one : Bool → ℕ = λ b. if b then 1 else 0 in
    let e : count_by p (set xs i y) + one (p (get_or xs i d)) ≡ count_by p xs + one (p y) = sum_by-set (λ x. one (p x)) xs i y d within in
    let before : one (p (get_or xs i d)) ≡ 0 = ap one old in
    let after : one (p y) ≡ 1 = ap one new in
    omega (arith, e, before, after)

-- where one fails the test there are more than those that pass
pub count_by_less : {X : Type 0} (p : X → Bool) (xs : List X) (i : ℕ) (y d : X) → i < length xs → p (get_or xs i d) ≡ false → p y ≡ true
    → count_by p xs < length xs
count_by_less p xs i y d within old new =
    omega (arith, count_by_set p xs i y d within old new, count_by-le-length p (set xs i y), length-set xs i y)

-- a list after a write
pub get_or_set : {X : Type 0} (xs : List X) (place i : ℕ) (y d : X) → place < length xs → get_or (set xs place y) i d ≡ (if place == i then y else get_or xs i d)
get_or_set xs place i y d within = elim (eqb_tells place i) [
  | inl same ↦ ap (λ n. get_or (set xs place y) n d) (sym same.1) ∙ get_or-set_same xs place y d within ∙ ap (λ b. if b then y else get_or xs i d) (sym same.0)
  | inr apart ↦ get_or-set_other xs place i y d (λ e. apart.1 (sym e)) ∙ ap (λ b. if b then y else get_or xs i d) (sym apart.0)
]

module _ {P H : Type 0} where
  module _ (events : List (Event P H)) (taken : List Bool) (slots : List (Option (P × H))) (kept : Agree events taken slots) where
    pub unmarked : (place : ℕ) → is_taken place events ≡ false → get_or taken place false ≡ false
    unmarked place waits = sym (kept.takes place) ∙ waits

    pub empty : (place : ℕ) → is_done place events ≡ false → is_some (slot_at slots place) ≡ false
    empty place open' = ap is_some (sym (kept.puts place)) ∙ open'

    pub room_for_take : (place : ℕ) → place < length slots → is_taken place events ≡ false → length events < 2 * length slots
    room_for_take place within waits =
        let more = count_by_less (λ (b : Bool). b) taken place true false (subst (λ (n : ℕ). place < n) (sym kept.sized) within) (unmarked place waits) refl in
        omega (arith, more, count_by-le-length is_some slots, kept.counted, kept.sized)

    pub room_for_put : (place : ℕ) (answer : P × H) → place < length slots → is_done place events ≡ false → length events < 2 * length slots
    room_for_put place answer within open' =
        let more = count_by_less is_some slots place (Some answer) None within (empty place open') refl in
        omega (arith, more, count_by-le-length (λ (b : Bool). b) taken, kept.counted, kept.sized)

    pub agree_take : (place : ℕ) → place < length slots → is_taken place events ≡ false → Agree (events ++ Take place ∷ []) (set taken place true) slots
    agree_take place within waits =
        let inside : place < length taken = subst (λ (n : ℕ). place < n) (sym kept.sized) within in
        record {
          sized = length-set taken place true ∙ kept.sized;
          takes = λ i.
              is_taken_last events (Take place) i ∙ ap (λ b. b || (place == i)) (kept.takes i) ∙ marked (get_or taken i false) (place == i)
              ∙ sym (get_or_set taken place i true false inside);
          puts = λ i. put_of_append events (Take place ∷ []) i ∙ same (put_of events i) ∙ kept.puts i;
          counted =
              let more = count_by_set (λ (b : Bool). b) taken place true false inside (unmarked place waits) refl in
              omega (arith, more, length_push events (Take place), kept.counted);
        }
      where
        marked : (old here : Bool) → (old || here) ≡ (if here then true else old)
        marked true true = refl
        marked true false = refl
        marked false true = refl
        marked false false = refl

        same : (o : Option (P × H)) → (if is_some o then o else None) ≡ o
        same None = refl
        same (Some answer) = refl

    pub agree_put : (place : ℕ) (reply : P) (held : H) → place < length slots → is_done place events ≡ false
        → Agree (events ++ Put place reply held ∷ []) taken (set slots place (Some (reply, held)))
    agree_put place reply held within open' = record {
      sized = kept.sized ∙ sym (length-set slots place (Some (reply, held)));
      takes = λ i. is_taken_last events (Put place reply held) i ∙ or-false (is_taken i events) ∙ kept.takes i;
      puts = λ i.
          put_of_append events (Put place reply held ∷ []) i ∙ ap (λ o. if is_some o then o else put_of (Put place reply held ∷ []) i) (kept.puts i)
          ∙ written i (slot_at slots i) (eqb_tells place i) refl ∙ sym (get_or_set slots place i (Some (reply, held)) None within);
      counted =
          let more = count_by_set is_some slots place (Some (reply, held)) None within (empty place open') refl in
          omega (arith, more, length_push events (Put place reply held), kept.counted);
    }
      where
        pick : (i : ℕ) (o : Option (P × H)) (b : Bool) → (b ≡ true → is_some o ≡ false)
            → (if is_some o then o else (if b then Some (reply, held) else None)) ≡ (if b then Some (reply, held) else o)
        pick i None true free = refl
        pick i None false free = refl
        pick i (Some answer) true free = absurd (cc (free refl))
        pick i (Some answer) false free = refl

        written : (i : ℕ) (o : Option (P × H)) → ((place == i) ≡ true × place ≡ i) ⊎ ((place == i) ≡ false × place ≢ i) → slot_at slots i ≡ o
            → (if is_some o then o else (if place == i then Some (reply, held) else None)) ≡ (if place == i then Some (reply, held) else o)
        written i o tells is = pick i o (place == i) (λ here. elim tells [
          | inl same ↦ ap is_some (sym is) ∙ ap (λ n. is_some (slot_at slots n)) (sym same.1) ∙ empty place open'
          | inr apart ↦ absurd (cc (apart.0, here))
        ])
