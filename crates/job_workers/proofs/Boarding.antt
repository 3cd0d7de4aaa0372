-- What a turn on a board tells a pass.
use Rattle.std.proofs.Common.{◌≡◌, ℕ, true, List, [], ◌∷◌, ◌++◌, map, sym, ◌∙◌, subst}
use Rattle.std.specs.Prelude.{Result, Ok, Err, Option, Some, None, IfOk, IfSome, IfNone, MatchOption}
use mathlib.Core.List.{IsPrefix}
use Rattle.job_workers.specs.declared.events.Event.{Event}
use Rattle.job_workers.specs.declared.events.Event.TheVariants.{Take}
use Rattle.job_workers.specs.declared.tasks.Task.{Task}
use Rattle.job_workers.specs.declared.tickets.Ticket.{Ticket}
use Rattle.job_workers.specs.Events.{is_done, put_of}
use Rattle.job_workers.specs.Machine.{IsIdle, IsFirstReady}
use Rattle.job_workers.specs.Tickets.{place_of, given_to, IsFor}
use Rattle.job_workers.specs.Boards.{TakesFirst}
use Rattle.job_workers.proofs.Growth.{put_of_stays, done_stays, taken_stays, given_stays}

module _ {P H : Type 0} (old new : List (Event P H)) (grown : IsPrefix old new) where
  -- a task that is done stays done
  pub done_along : (place : ℕ) → is_done place old ≡ true → is_done place new ≡ true
  done_along place h = subst (λ (es : List (Event P H)). is_done place es ≡ true) grown.1 (done_stays old grown.0 place h)

  -- a ticket stays one for its task
  pub for_along : {J S : Type 0} (sense : H → S) (tasks : List (Task J H)) (ticket : Ticket H) → IsFor sense tasks old ticket → IsFor sense tasks new ticket
  for_along sense tasks ticket h =
      let longer : IsFor sense tasks (old ++ grown.0) ticket = record {
        taken = taken_stays old grown.0 (place_of ticket) h.taken;
        task = h.task;
        there = h.there;
        given = given_stays sense (put_of old) (put_of (old ++ grown.0)) (put_of_stays old grown.0) h.task.needs.items (map sense (given_to ticket)) h.given;
      } in
      subst (λ (es : List (Event P H)). IsFor sense tasks es ticket) grown.1 longer

-- what a turn that takes says, once it is over
abbrev pub Taken : {J H P E : Type 0} → List (Task J H) → List (Event P H) → List (Event P H) → Result (Option (Ticket H)) E → Type 0
Taken tasks mid new r = IfOk r (λ o. MatchOption o ((new ≡ mid) × IsIdle tasks mid) (λ ticket. IsFirstReady tasks mid (place_of ticket) × (new ≡ mid ++ Take (place_of ticket) ∷ [])))

module _ {J H P E : Type 0} (tasks given : List (Task J H)) (same : given ≡ tasks) (mid new seen : List (Event P H)) (is : seen ≡ new) where
  pub idle_seen : (r : Result (Option (Ticket H)) E) → Taken given mid new r → IfOk r (λ o. IfNone o (IsIdle tasks seen))
  idle_seen (Ok None) h =
      subst (λ (es : List (Event P H)). IsIdle tasks es) (sym (is ∙ h.0)) (subst (λ (ts : List (Task J H)). IsIdle ts mid) same h.1)
  idle_seen (Ok (Some ticket)) h = tt
  idle_seen (Err e) h = tt

  pub first_seen : (old : List (Event P H)) → IsPrefix old mid → (r : Result (Option (Ticket H)) E) → Taken given mid new r → IfOk r (λ o. IfSome o (λ ticket. TakesFirst old seen tasks (place_of ticket)))
  first_seen old grown (Ok None) h = tt
  first_seen old grown (Ok (Some ticket)) h = record {
    before = mid;
    grown = grown;
    first = subst (λ (ts : List (Task J H)). IsFirstReady ts mid (place_of ticket)) same h.0;
    taken = is ∙ h.1;
  }
  first_seen old grown (Err e) h = tt
