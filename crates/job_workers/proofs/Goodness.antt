-- The laws of the machine of a board.
use Rattle.std.proofs.Common.{◌≡◌, ℕ, ◌+◌, ◌≤◌, ◌==◌, ◌||◌, ◌⊎◌, Bool, true, false, if◌then◌else◌, List, [], ◌∷◌, ◌++◌, refl, sym, ap, ◌∙◌, subst, inl, inr, arith, append_assoc, append-nil}
use Rattle.std.specs.Prelude.{Option, Some, None, is_some}
use Rattle.std.specs.List.{count_by}
use Rattle.std.proofs.lemmas.Bool.{eqb-true}
use Rattle.std.proofs.lemmas.Bool.Decides.{eqb_tells}
use Rattle.std.proofs.lemmas.List.Sums.{sum_by-append}
use Rattle.job_workers.specs.declared.events.Event.{Event}
use Rattle.job_workers.specs.declared.events.Event.TheVariants.{Take, Put}
use Rattle.job_workers.specs.declared.tasks.Task.{Task}
use Rattle.job_workers.specs.Events.{takes, puts, is_taken, put_of, is_done}
use Rattle.job_workers.specs.Needs.{IsAnswerAt}
use Rattle.job_workers.specs.Machine.{IsMet, IsAllowed, Runs, IsRun, IsGood}
use Rattle.job_workers.proofs.Growth.{put_of_append, put_of_stays, is_taken_last, IsMet-stays, answer_stays, taken_stays}

pub either_true : (a b : Bool) → (a || b) ≡ true → (a ≡ true) ⊎ (b ≡ true)
either_true true b h = inl refl
either_true false b h = inr h

-- the first of two answers that is there
pub first_of : {A : Type 0} (o p : Option A) (x : A) → (if is_some o then o else p) ≡ Some x → (o ≡ Some x) ⊎ (p ≡ Some x)
first_of None p x h = inr h
first_of (Some y) p x h = inl h

there : {A : Type 0} (o : Option A) → is_some o ≡ true → (x : A) × (o ≡ Some x)
there None h = absurd cc
there (Some x) h = (x, refl)

-- a count after its first element
count_first : {X : Type 0} (p : X → Bool) (x : X) (xs : List X) (b : Bool) → p x ≡ b → count_by p (x ∷ xs) ≡ (if b then 1 else 0) + count_by p xs
count_first p x xs b is =
    let split : count_by p (x ∷ xs) ≡ (0 + (if p x then 1 else 0)) + count_by p xs = sum_by-append (λ y. if p y then 1 else 0) (x ∷ []) xs in
    let first : ◌≡◌ {A = ℕ} (if p x then 1 else 0) (if b then 1 else 0) = ap (λ c. if c then 1 else 0) is in
    omega (arith, split, first)

module _ {P H : Type 0} where
  none_taken : (events : List (Event P H)) (place : ℕ) → is_taken place events ≡ false → count_by (takes place) events ≡ 0
  none_taken [] place h = refl
  none_taken (e ∷ events) place h = first (takes place e) refl h (none_taken events place)
    where
      first : (b : Bool) → takes place e ≡ b → (b || is_taken place events) ≡ false → (is_taken place events ≡ false → count_by (takes place) events ≡ 0)
          → count_by (takes place) (e ∷ events) ≡ 0
      first true is h rest = absurd cc
      first false is h rest = omega (arith, count_first (takes place) e events false is, rest h)

  none_done : (events : List (Event P H)) (place : ℕ) → is_done place events ≡ false → count_by (puts place) events ≡ 0
  none_done [] place h = refl
  none_done (Take n ∷ events) place h = omega (arith, count_first (puts place) (Take n) events false refl, none_done events place h)
  none_done (Put n reply held ∷ events) place h = first (n == place) refl h (none_done events place)
    where
      first : (b : Bool) → (n == place) ≡ b → is_some (if b then Some (reply, held) else put_of events place) ≡ false
          → (is_done place events ≡ false → count_by (puts place) events ≡ 0) → count_by (puts place) (Put n reply held ∷ events) ≡ 0
      first true is h rest = absurd cc
      first false is h rest = omega (arith, count_first (puts place) (Put n reply held) events false is, rest h)

module _ {J H P S : Type 0} (tasks : List (Task J H)) (sense : H → S) (Belongs : J → List S → P → S → Type 0) where
  -- a run goes on with an event that may follow it
  pub Runs-more : (before events : List (Event P H)) (e : Event P H) → Runs tasks sense Belongs before events → IsAllowed tasks sense Belongs (before ++ events) e
      → Runs tasks sense Belongs before (events ++ e ∷ [])
  Runs-more before [] e runs may = (subst (λ (es : List (Event P H)). IsAllowed tasks sense Belongs es e) (append-nil before) may, tt)
  Runs-more before (x ∷ events) e runs may =
      (runs.0, Runs-more (before ++ x ∷ []) events e runs.1 (subst (λ (es : List (Event P H)). IsAllowed tasks sense Belongs es e) (sym (append_assoc before (x ∷ []) events)) may))

  -- what each step keeps holds after a run
  run_keeps : (Q : List (Event P H) → Type 0) → ((before : List (Event P H)) (e : Event P H) → IsAllowed tasks sense Belongs before e → Q before → Q (before ++ e ∷ []))
      → (before events : List (Event P H)) → Runs tasks sense Belongs before events → Q before → Q (before ++ events)
  run_keeps Q keeps before [] runs h = subst Q (sym (append-nil before)) h
  run_keeps Q keeps before (e ∷ events) runs h =
      subst Q (append_assoc before (e ∷ []) events) (run_keeps Q keeps (before ++ e ∷ []) events runs.1 (keeps before e runs.0 h))

  taken_by : (before : List (Event P H)) (e : Event P H) → IsAllowed tasks sense Belongs before e → (place : ℕ) → takes place e ≡ true → (is_taken place before ≡ false) × IsMet tasks before place
  taken_by before (Take n) may place h = subst (λ (k : ℕ). (is_taken k before ≡ false) × IsMet tasks before k) (eqb-true n place h) may.0
  taken_by before (Put n reply held) may place h = absurd cc

  put_by : (before : List (Event P H)) (e : Event P H) → IsAllowed tasks sense Belongs before e → (place : ℕ) (reply : P) (held : H) → put_of (e ∷ []) place ≡ Some (reply, held)
      → (is_taken place before ≡ true) × (is_done place before ≡ false) × IsAnswerAt sense Belongs tasks (put_of before) place reply held
  put_by before (Take n) may place reply held h = absurd cc
  put_by before (Put n reply' held') may place reply held h = elim (eqb_tells n place) [
    | inl same ↦
        let answer : Some (reply', held') ≡ Some (reply, held) = ap (λ b. if b then Some (reply', held') else None) (sym same.0) ∙ h in
        let Says : ℕ → P × H → Type 0 = λ k a. (is_taken k before ≡ true) × (is_done k before ≡ false) × IsAnswerAt sense Belongs tasks (put_of before) k a.0 a.1 in
        let equal : ◌≡◌ {A = P × H} (reply', held') (reply, held) = cc answer in
        subst (λ (a : P × H). Says place a) equal (subst (λ (k : ℕ). Says k (reply', held')) same.1 may)
    | inr apart ↦
        let none : ◌≡◌ {A = Option (P × H)} None (Some (reply, held)) = ap (λ b. if b then Some (reply', held') else None) (sym apart.0) ∙ h in
        absurd cc
  ]

  good_more : (before : List (Event P H)) (e : Event P H) → IsAllowed tasks sense Belongs before e → IsGood tasks sense Belongs before → IsGood tasks sense Belongs (before ++ e ∷ [])
  good_more before e may good = record {
    taken = λ place h. elim (either_true (is_taken place before) (takes place e) (sym (is_taken_last before e place) ∙ h)) [
      | inl old ↦ IsMet-stays tasks before (e ∷ []) place (good.taken place old)
      | inr new ↦ IsMet-stays tasks before (e ∷ []) place (taken_by before e may place new).1
    ];
    done = λ place h.
        let answer = there (put_of (before ++ e ∷ []) place) h in
        elim (first_of (put_of before place) (put_of (e ∷ []) place) answer.0 (sym (put_of_append before (e ∷ []) place) ∙ answer.1)) [
          | inl old ↦ taken_stays before (e ∷ []) place (good.done place (ap is_some old))
          | inr new ↦ taken_stays before (e ∷ []) place (put_by before e may place answer.0.0 answer.0.1 new).0
        ];
    answers = λ place reply held h. elim (first_of (put_of before place) (put_of (e ∷ []) place) (reply, held) (sym (put_of_append before (e ∷ []) place) ∙ h)) [
      | inl old ↦ answer_stays sense (put_of before) (put_of (before ++ e ∷ [])) (put_of_stays before (e ∷ [])) Belongs tasks place reply held (good.answers place reply held old)
      | inr new ↦ answer_stays sense (put_of before) (put_of (before ++ e ∷ [])) (put_of_stays before (e ∷ [])) Belongs tasks place reply held (put_by before e may place reply held new).2
    ];
  }

  good_first : IsGood {P = P} tasks sense Belongs []
  good_first = record {
    taken = λ place h. absurd cc;
    done = λ place h. absurd cc;
    answers = λ place reply held h. absurd cc;
  }

  pub run_is_good : (events : List (Event P H)) → IsRun tasks sense Belongs events → IsGood tasks sense Belongs events
  run_is_good events runs = run_keeps (IsGood tasks sense Belongs) good_more [] events runs good_first

  once_more : (p : Event P H → Bool) (before : List (Event P H)) (e : Event P H) → count_by p before ≤ 1 → (p e ≡ true → count_by p before ≡ 0) → count_by p (before ++ e ∷ []) ≤ 1
  once_more p before e h none = cases (p e) refl
    where
      cases : (b : Bool) → p e ≡ b → count_by p (before ++ e ∷ []) ≤ 1
      cases true is = omega (arith, sum_by-append (λ (x : Event P H). if p x then 1 else 0) before (e ∷ []), count_first p e [] true is, none is)
      cases false is = omega (arith, sum_by-append (λ (x : Event P H). if p x then 1 else 0) before (e ∷ []), count_first p e [] false is, h)

  pub taken_once : (events : List (Event P H)) → IsRun tasks sense Belongs events → (place : ℕ) → count_by (takes place) events ≤ 1
  taken_once events runs place =
      run_keeps (λ es. count_by (takes place) es ≤ 1)
      (λ before e may h. once_more (takes place) before e h (λ takes'. none_taken before place (taken_by before e may place takes').0))
      [] events runs (omega arith)

  pub done_once : (events : List (Event P H)) → IsRun tasks sense Belongs events → (place : ℕ) → count_by (puts place) events ≤ 1
  done_once events runs place =
      run_keeps (λ es. count_by (puts place) es ≤ 1)
      (λ before e may h. once_more (puts place) before e h (λ puts'. none_done before place (open_before before e may place puts')))
      [] events runs (omega arith)
    where
      open_before : (before : List (Event P H)) (e : Event P H) → IsAllowed tasks sense Belongs before e → (place : ℕ) → puts place e ≡ true → is_done place before ≡ false
      open_before before (Take n) may place h = absurd cc
      open_before before (Put n reply held) may place h = subst (λ (k : ℕ). is_done k before ≡ false) (eqb-true n place h) may.1
