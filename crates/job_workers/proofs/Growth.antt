-- What stays as more events follow: what was taken and done, what the needs mean, and which answers belong.
use Rattle.std.proofs.Common.{◌≡◌, ℕ, ◌==◌, ◌||◌, ◌&&◌, Bool, true, false, if◌then◌else◌, List, [], ◌∷◌, ◌++◌, refl, ap, ◌∙◌}
use Rattle.std.specs.Prelude.{Option, Some, None, is_some}
use Rattle.std.specs.Option.{option_map}
use Rattle.std.specs.List.{list_all}
use Rattle.std.proofs.Math.Bool.{or-false}
use Rattle.std.proofs.lemmas.List.Folds.{list_any-append}
use Rattle.job_workers.specs.declared.events.Event.{Event}
use Rattle.job_workers.specs.declared.events.Event.TheVariants.{Take, Put}
use Rattle.job_workers.specs.declared.tasks.Need.{Need}
use Rattle.job_workers.specs.declared.tasks.Need.TheVariants.{Value, Task as OfTask}
use Rattle.job_workers.specs.declared.tasks.Task.{Task}
use Rattle.job_workers.specs.Events.{takes, is_taken, put_of, is_done}
use Rattle.job_workers.specs.Needs.{is_met, follows, meaning_of, AreGiven, IsAnswerAt}
use Rattle.job_workers.specs.Machine.{IsMet}

-- the first of two answers
pub first_stays : {A : Type 0} (o p : Option A) (x : A) → o ≡ Some x → (if is_some o then o else p) ≡ Some x
first_stays None p x h = absurd cc
first_stays (Some y) p x h = h

pub some_stays : {A : Type 0} (o p : Option A) → is_some o ≡ true → is_some (if is_some o then o else p) ≡ true
some_stays None p h = absurd cc
some_stays (Some y) p h = refl

or_stays : (a b : Bool) → a ≡ true → (a || b) ≡ true
or_stays true b h = refl
or_stays false b h = absurd cc

module _ {P H : Type 0} where
  -- a put stays, and where there was none the later events decide
  pub put_of_append : (events rest : List (Event P H)) (place : ℕ)
      → put_of (events ++ rest) place ≡ (if is_some (put_of events place) then put_of events place else put_of rest place)
  put_of_append [] rest place = refl
  put_of_append (Take n ∷ events) rest place = put_of_append events rest place
  put_of_append (Put n reply held ∷ events) rest place = cases (n == place) (put_of_append events rest place)
    where
      cases : (b : Bool) → put_of (events ++ rest) place ≡ (if is_some (put_of events place) then put_of events place else put_of rest place)
          → (if b then Some (reply, held) else put_of (events ++ rest) place)
          ≡ (if is_some (if b then Some (reply, held) else put_of events place) then (if b then Some (reply, held) else put_of events place) else put_of rest place)
      cases true later = refl
      cases false later = later

  pub put_of_stays : (events rest : List (Event P H)) (place : ℕ) (answer : P × H) → put_of events place ≡ Some answer → put_of (events ++ rest) place ≡ Some answer
  put_of_stays events rest place answer h = put_of_append events rest place ∙ first_stays (put_of events place) (put_of rest place) answer h

  pub done_stays : (events rest : List (Event P H)) (place : ℕ) → is_done place events ≡ true → is_done place (events ++ rest) ≡ true
  done_stays events rest place h = ap is_some (put_of_append events rest place) ∙ some_stays (put_of events place) (put_of rest place) h

  pub taken_stays : (events rest : List (Event P H)) (place : ℕ) → is_taken place events ≡ true → is_taken place (events ++ rest) ≡ true
  taken_stays events rest place h = list_any-append (takes place) events rest ∙ or_stays (is_taken place events) (is_taken place rest) h

  pub is_taken_last : (events : List (Event P H)) (e : Event P H) (place : ℕ) → is_taken place (events ++ e ∷ []) ≡ (is_taken place events || takes place e)
  is_taken_last events e place = list_any-append (takes place) events (e ∷ []) ∙ ap (λ b. is_taken place events || b) (or-false (takes place e))

-- a need that is met stays met
pub met_stays : {H : Type 0} (old new : ℕ → Bool) → ((place : ℕ) → old place ≡ true → new place ≡ true) → (needs : List (Need H))
    → list_all (is_met old) needs ≡ true → list_all (is_met new) needs ≡ true
met_stays old new more [] h = refl
met_stays old new more (Value held ∷ needs) h = met_stays old new more needs h
met_stays old new more (OfTask place ∷ needs) h = both (old place) (new place) (list_all (is_met old) needs) (list_all (is_met new) needs) (more place) (met_stays old new more needs) h
  where
    both : (a b c d : Bool) → (a ≡ true → b ≡ true) → (c ≡ true → d ≡ true) → (a && c) ≡ true → (b && d) ≡ true
    both true b c d first rest h = rw (first refl) (rest h)
    both false b c d first rest h = absurd cc

-- so does what a task follows
follows_stays : (old new : ℕ → Bool) → ((place : ℕ) → old place ≡ true → new place ≡ true) → (after : Option ℕ) → follows old after ≡ true → follows new after ≡ true
follows_stays old new more None h = h
follows_stays old new more (Some place) h = more place h

-- what is given stays where each answer does
module _ {H P S : Type 0} (sense : H → S) (old new : ℕ → Option (P × H)) (more : (place : ℕ) (answer : P × H) → old place ≡ Some answer → new place ≡ Some answer) where
  meaning_stays : (need : Need H) (s : S) → meaning_of sense old need ≡ Some s → meaning_of sense new need ≡ Some s
  meaning_stays (Value held) s h = h
  meaning_stays (OfTask place) s h = mapped (old place) (new place) (more place) h
    where
      mapped : (o p : Option (P × H)) → ((answer : P × H) → o ≡ Some answer → p ≡ Some answer) → option_map (λ answer. sense answer.1) o ≡ Some s
          → option_map (λ answer. sense answer.1) p ≡ Some s
      mapped None p stays h = absurd cc
      mapped (Some answer) p stays h = ap (option_map (λ (a : P × H). sense a.1)) (stays answer refl) ∙ h

  pub given_stays : (needs : List (Need H)) (given : List S) → AreGiven sense old needs given → AreGiven sense new needs given
  given_stays [] given h = h
  given_stays (need ∷ needs) [] h = absurd cc
  given_stays (need ∷ needs) (s ∷ given) h =
      let first = meaning_stays need s cc in
      let rest = given_stays needs given cc in
      cc (first, rest)

  pub answer_stays : {J : Type 0} (Belongs : J → List S → P → S → Type 0) (tasks : List (Task J H)) (place : ℕ) (reply : P) (held : H)
      → IsAnswerAt sense Belongs tasks old place reply held → IsAnswerAt sense Belongs tasks new place reply held
  answer_stays Belongs tasks place reply held h = record {
    task = h.task;
    there = h.there;
    answer = record {
      given = h.answer.given;
      are_given = given_stays h.task.needs.items h.answer.given h.answer.are_given;
      belongs = h.answer.belongs;
    };
  }

module _ {J H P : Type 0} (tasks : List (Task J H)) (events rest : List (Event P H)) where
  pub IsMet-stays : (place : ℕ) → IsMet tasks events place → IsMet tasks (events ++ rest) place
  IsMet-stays place h = record {
    task = h.task;
    there = h.there;
    met = met_stays (λ n. is_done n events) (λ n. is_done n (events ++ rest)) (done_stays events rest) h.task.needs.items h.met;
    followed = follows_stays (λ n. is_done n events) (λ n. is_done n (events ++ rest)) (done_stays events rest) h.task.after h.followed;
  }
