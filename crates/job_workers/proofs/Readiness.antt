-- Tasks that are ready, and the values that they are given.
use Rattle.std.proofs.Common.{◌≡◌, ℕ, ◌+◌, ◌<◌, Bool, true, false, List, [], ◌∷◌, ◌++◌, length, map, take, get_or, sym, ap, ◌∙◌, subst}
use Rattle.std.specs.Prelude.{Option, Some, None, is_some, slice_get}
use Rattle.std.specs.Option.{option_map}
use Rattle.std.specs.List.{list_all}
use Rattle.std.proofs.lemmas.Bool.{and_from, and_parts}
use Rattle.std.proofs.lemmas.List.{take_more, map-append}
use Rattle.job_workers.specs.declared.events.Event.{Event}
use Rattle.job_workers.specs.declared.tasks.Need.{Need}
use Rattle.job_workers.specs.declared.tasks.Need.TheVariants.{Value, Task as OfTask}
use Rattle.job_workers.specs.declared.tasks.Task.{Task}
use Rattle.job_workers.specs.Events.{is_taken, put_of, is_done}
use Rattle.job_workers.specs.Needs.{is_met, follows, may_begin, meaning_of, AreGiven}
use Rattle.job_workers.specs.Machine.{IsReady}

module _ {J H P : Type 0} (tasks : List (Task J H)) (events : List (Event P H)) (place : ℕ) (task : Task J H) (there : slice_get tasks place ≡ Some task) where
  begins_by : {b : Bool} (done : ℕ → Option (P × H)) (r : Bool) → done ≡ put_of events → r ≡ may_begin (λ n. is_some (done n)) task → r ≡ b
      → may_begin (λ n. is_done n events) task ≡ b
  begins_by {b} done r same tells found = subst (λ (f : ℕ → Option (P × H)). may_begin (λ n. is_some (f n)) task ≡ b) same (sym tells ∙ found)

  -- a task is ready where it was found that it may begin, by slots that say what the events say
  pub ready_by : (done : ℕ → Option (P × H)) (r : Bool) → done ≡ put_of events → r ≡ may_begin (λ n. is_some (done n)) task → r ≡ true → is_taken place events ≡ false
      → IsReady tasks events place
  ready_by done r same tells begins waits =
      let both =
      and_parts (list_all (is_met (λ n. is_done n events)) task.needs.items) (follows (λ n. is_done n events) task.after) (begins_by done r same tells begins) in (
        waits,
        record { task = task; there = there; met = both.0; followed = both.1 },
      )

  pub unmet_by : (done : ℕ → Option (P × H)) (r : Bool) → done ≡ put_of events → r ≡ may_begin (λ n. is_some (done n)) task → r ≡ false → ¬ IsReady tasks events place
  unmet_by done r same tells unmet ready =
      let fails : may_begin (λ n. is_done n events) task ≡ false = begins_by done r same tells unmet in
      let equal : ready.1.task ≡ task = cc (ready.1.there, there) in
      let begins : may_begin (λ n. is_done n events) task ≡ true =
      subst (λ (t : Task J H). may_begin (λ n. is_done n events) t ≡ true) equal
      (and_from (list_all (is_met (λ n. is_done n events)) ready.1.task.needs.items) (follows (λ n. is_done n events) ready.1.task.after) ready.1.met ready.1.followed) in
      absurd (cc (begins, fails))

module _ {H P S : Type 0} (sense : H → S) (done : ℕ → Option (P × H)) where
  -- the meaning of a need is that of the value that it stands for
  pub meaning_through : (need : Need H) (held : H) → meaning_of (λ (h : H). h) done need ≡ Some held → meaning_of sense done need ≡ Some (sense held)
  meaning_through (Value v) held h = ap (λ (x : H). Some (sense x)) cc
  meaning_through (OfTask place) held h = through (done place) h
    where
      through : (o : Option (P × H)) → option_map (λ a. a.1) o ≡ Some held → option_map (λ a. sense a.1) o ≡ Some (sense held)
      through None h = absurd cc
      through (Some a) h = ap (λ (x : H). Some (sense x)) cc

  -- one more value is given
  pub given_more : (needs : List (Need H)) (i : ℕ) (need : Need H) (given : List H) (held : H) → i < length needs → need ≡ get_or needs i need
      → AreGiven sense done (take i needs) (map sense given) → meaning_of sense done need ≡ Some (sense held)
      → AreGiven sense done (take (i + 1) needs) (map sense (given ++ held ∷ []))
  given_more needs i need given held within is before means =
      let f = meaning_of sense done in
      ap (map f) (take_more needs i need within)
      ∙ (map-append f (take i needs) (get_or needs i need ∷ [])
      ∙ (ap (λ (os : List (Option S)). os ++ f (get_or needs i need) ∷ []) before
      ∙ (ap (λ (o : Option S). map Some (map sense given) ++ o ∷ []) (ap f (sym is) ∙ means)
      ∙ (sym (map-append Some (map sense given) (sense held ∷ []))
      ∙ ap (map Some) (sym (map-append sense given (held ∷ [])))))))
