-- The slots of a window, filled one after another.
use Rattle.std.proofs.Common.{◌≡◌, ℕ, ◌+◌, ◌<◌, ◌==◌, ◌&&◌, ◌⊎◌, Bool, true, false, if◌then◌else◌, List, [], ◌∷◌, ◌++◌, length, map, set, get_or, zero, suc, refl, sym, ap, ◌∙◌, subst, inl, inr, arith, below_more, append_assoc, append-nil, take, drop}
use Rattle.std.specs.Prelude.{Option, Some, None, is_some, IsSome, slice_get}
use Rattle.std.specs.List.{list_all, All}
use Rattle.std.proofs.lemmas.Bool.Decides.{eqb_tells}
use Rattle.std.proofs.lemmas.List.{get_or-set_same, map-append, drop_all, take_all}
use Rattle.std.proofs.lemmas.Option.{slice_get_read, slice_get-get_or}
use Rattle.job_workers.specs.declared.tasks.Need.{Need}
use Rattle.job_workers.specs.declared.tasks.Need.TheVariants.{Value, Task as OfTask}
use Rattle.job_workers.specs.declared.tasks.Task.{Task}
use Rattle.job_workers.specs.Needs.{is_met, IsBefore, IsAnswer, IsAnswerAt, AreAnswers, HoldFitting}
use Rattle.job_workers.specs.Records.{slot_at}
use Rattle.job_workers.proofs.Growth.{answer_stays}
use Rattle.job_workers.proofs.Marks.{get_or_set}

module _ {J H P S : Type 0} (sense : H → S) (Belongs : J → List S → P → S → Type 0) (HeldFits : H → Type 0) (tasks : List (Task J H)) where
  -- what stands in the slots are answers that fit, and the first slots are full
  pub record ArePartly (slots : List (Option (P × H))) (upto : ℕ) : Type 0 where
    pub answers : AreAnswers sense Belongs tasks (slot_at slots)
    pub held : HoldFitting HeldFits (slot_at slots)
    pub full : (k : ℕ) → k < upto → IsSome (slot_at slots k)

  pub skipped : (slots : List (Option (P × H))) (place : ℕ) → ArePartly slots place → is_some (slot_at slots place) ≡ true → ArePartly slots (place + 1)
  skipped slots place h full = record {
    answers = h.answers;
    held = h.held;
    full = below_more _ _ h.full full;
  }

  module _ (slots : List (Option (P × H))) (place : ℕ) (within : place < length slots) (open' : is_some (slot_at slots place) ≡ false) (made : P × H) where
    at : (k : ℕ) → slot_at (set slots place (Some made)) k ≡ (if place == k then Some made else slot_at slots k)
    at k = get_or_set slots place k (Some made) None within

    kept : (k : ℕ) (answer : P × H) → slot_at slots k ≡ Some answer → slot_at (set slots place (Some made)) k ≡ Some answer
    kept k answer h = elim (eqb_tells place k) [
      | inl same ↦
          let none : is_some (slot_at slots k) ≡ false = subst (λ (n : ℕ). is_some (slot_at slots n) ≡ false) same.1 open' in
          absurd (cc (none, ap is_some h))
      | inr apart ↦ at k ∙ (ap (λ b. if b then Some made else slot_at slots k) apart.0 ∙ h)
    ]

    -- an answer is the new one or an old one
    known : (k : ℕ) (answer : P × H) → slot_at (set slots place (Some made)) k ≡ Some answer → ((place ≡ k) × (made ≡ answer)) ⊎ (slot_at slots k ≡ Some answer)
    known k answer h = elim (eqb_tells place k) [
      | inl same ↦
          let new : ◌≡◌ {A = Option (P × H)} (Some made) (Some answer) = ap (λ b. if b then Some made else slot_at slots k) (sym same.0) ∙ (sym (at k) ∙ h) in
          inl (same.1, cc)
      | inr apart ↦ inr (ap (λ b. if b then Some made else slot_at slots k) (sym apart.0) ∙ (sym (at k) ∙ h))
    ]

    pub filled : (task : Task J H) → task ≡ get_or tasks place task → place < length tasks → ArePartly slots place → IsAnswer sense (slot_at slots) Belongs task made.0 made.1 → HeldFits made.1
        → ArePartly (set slots place (Some made)) (place + 1)
    filled task is inside h answer fits = record {
      answers = λ k reply held there. elim (known k (reply, held) there) [
        | inl new ↦
            let first : IsAnswerAt sense Belongs tasks (slot_at slots) place made.0 made.1 = record {
              task = task;
              there = slice_get_read tasks _ place task refl inside is;
              answer = answer;
            } in
            let stays = answer_stays sense (slot_at slots) (slot_at (set slots place (Some made))) kept Belongs tasks place made.0 made.1 first in
            subst (λ (n : ℕ). IsAnswerAt sense Belongs tasks (slot_at (set slots place (Some made))) n reply held) new.0
            (subst (λ (a : P × H). IsAnswerAt sense Belongs tasks (slot_at (set slots place (Some made))) place a.0 a.1) new.1 stays)
        | inr old ↦ answer_stays sense (slot_at slots) (slot_at (set slots place (Some made))) kept Belongs tasks k reply held (h.answers k reply held old)
      ];
      held = λ k a there. elim (known k a there) [
        | inl new ↦ subst (λ (b : P × H). HeldFits b.1) new.1 fits
        | inr old ↦ h.held k a old
      ];
      full =
          below_more _ _ (λ k below. let a = there (slot_at slots k) (h.full k below) in ap is_some (kept k a.0 a.1))
          (ap is_some (get_or-set_same slots place (Some made) None within));
    }
      where
        there : (o : Option (P × H)) → is_some o ≡ true → (x : P × H) × (o ≡ Some x)
        there None h = absurd cc
        there (Some x) h = (x, refl)

-- the needs of a task are met where all tasks before it are done
pub met_before : {H : Type 0} (done : ℕ → Bool) (place : ℕ) (needs : List (Need H)) → ((k : ℕ) → k < place → done k ≡ true) → All (IsBefore place) needs → list_all (is_met done) needs ≡ true
met_before done place [] full before = refl
met_before done place (Value held ∷ needs) full before = met_before done place needs full (λ k d within. before (suc k) d (omega arith))
met_before done place (OfTask n ∷ needs) full before =
    ap (λ b. b && list_all (is_met done) needs) (full n (before 0 (OfTask n) (omega arith))) ∙ met_before done place needs full (λ k d within. before (suc k) d (omega arith))

-- the slots, once all of them are full
slot_at_some : {T : Type 0} (answers : List T) (k : ℕ) → get_or (map Some answers) k None ≡ slice_get answers k
slot_at_some [] k = refl
slot_at_some (x ∷ xs) zero = refl
slot_at_some (x ∷ xs) (suc k) = slot_at_some xs k

pub slots_full : {P H : Type 0} (slots : List (Option (P × H))) (answers : List (P × H)) → map Some answers ≡ slots → slot_at slots ≡ slice_get answers
slots_full slots answers same = ap slot_at (sym same) ∙ (λ i k. slot_at_some answers k i)

pub unwrapped : {T : Type 0} (answers : List T) (value : T) (slot : Option T) (left rest all : List (Option T)) → map Some answers ++ left ≡ all → left ≡ slot ∷ rest → slot ≡ Some value
    → map Some (answers ++ value ∷ []) ++ rest ≡ all
unwrapped answers value slot left rest all h is some =
    ap (λ (xs : List (Option _)). xs ++ rest) (map-append Some answers (value ∷ []))
    ∙ (append_assoc (map Some answers) (Some value ∷ []) rest
    ∙ (ap (λ (xs : List (Option _)). map Some answers ++ xs) (ap (λ (o : Option _). o ∷ rest) (sym some) ∙ sym is) ∙ h))

-- a whole list that was lent and given back
pub lent_whole : {A : Type 0} (xs ys : List A) (n : ℕ) → length xs ≡ length ys → n ≡ length ys → take n (xs ++ drop (length xs) ys) ≡ xs
lent_whole xs ys n same is =
    ap (λ (zs : List _). take n (xs ++ zs)) (drop_all (length xs) ys (omega arith)) ∙ (ap (take n) (append-nil xs) ∙ take_all n xs (omega arith))

-- what holds of all values of full slots
pub All-unwrapped : {P H : Type 0} (HeldFits : H → Type 0) (answers : List (P × H)) → HoldFitting HeldFits (slice_get answers) → All (λ answer. HeldFits answer.1) answers
All-unwrapped HeldFits answers h k d within = h k (get_or answers k d) (slice_get-get_or answers k d within)
