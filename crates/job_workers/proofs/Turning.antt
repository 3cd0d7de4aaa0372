-- What a turn on a board keeps.
use Rattle.std.proofs.Common.{◌≡◌, ℕ, ◌<◌, ◌==◌, ◌||◌, Bool, true, false, if◌then◌else◌, List, [], ◌∷◌, ◌++◌, length, map, get_or, refl, sym, ap, ◌∙◌, subst, inl, inr, append-nil}
use Rattle.std.specs.Prelude.{Option, Some, None, is_some, slice_get, MatchBool}
use Rattle.std.specs.List.{list_all, All}
use mathlib.Core.List.{IsPrefix}
use Rattle.std.proofs.lemmas.Option.{slice_get_read, slice_get_within, get_or_from_slice_get}
use Rattle.std.proofs.lemmas.Bool.{eq-eqb}
use Rattle.std.proofs.lemmas.List.{length-map}
use Rattle.job_workers.specs.declared.events.Event.{Event}
use Rattle.job_workers.specs.declared.events.Event.TheVariants.{Take, Put}
use Rattle.job_workers.specs.declared.tasks.Need.{Need}
use Rattle.job_workers.specs.declared.tasks.Task.{Task}
use Rattle.job_workers.specs.declared.tickets.Ticket.{Ticket}
use Rattle.job_workers.specs.Events.{is_taken, put_of, is_done}
use Rattle.job_workers.specs.Needs.{is_met, meaning_of, AreGiven, OnValue, HoldFitting, Fits}
use Rattle.job_workers.specs.Machine.{IsFirstReady}
use Rattle.job_workers.specs.Tickets.{place_of, given_to, IsFor, Answers, TicketFits}
use Rattle.job_workers.specs.Slates.{IsInOrder}
use Rattle.job_workers.proofs.Growth.{put_of_append, put_of_stays, is_taken_last, given_stays}
use Rattle.job_workers.proofs.Goodness.{Runs-more, first_of}

module _ {J H P : Type 0} (tasks : List (Task J H)) (events : List (Event P H)) (place : ℕ) where
  pub first_within : IsFirstReady tasks events place → place < length tasks
  first_within first = slice_get_within tasks place first.0.1.task first.0.1.there

  module _ (task : Task J H) (is : task ≡ get_or tasks place task) (first : IsFirstReady tasks events place) where
    found : first.0.1.task ≡ task
    found =
        let there : slice_get tasks place ≡ Some task = slice_get_read tasks _ place task refl (first_within first) is in
        cc (there, first.0.1.there)

    pub needs_met : (done : ℕ → Option (P × H)) (needs : List (Need H)) → done ≡ put_of events → needs ≡ task.needs.items → list_all (is_met (λ n. is_some (done n))) needs ≡ true
    needs_met done needs same items =
        subst (λ (f : ℕ → Option (P × H)). list_all (is_met (λ n. is_some (f n))) needs ≡ true) (sym same)
        (ap (list_all (is_met (λ n. is_done n events))) (items ∙ ap (λ (t : Task J H). t.needs.items) (sym found)) ∙ first.0.1.met)

    -- the ticket of a task that was taken
    pub ticket_for : {S : Type 0} (sense : H → S) (ticket : Ticket H) (done : ℕ → Option (P × H)) (needs : List (Need H)) → place_of ticket ≡ place → done ≡ put_of events
        → needs ≡ task.needs.items → AreGiven sense done needs (map sense (given_to ticket)) → IsFor sense tasks (events ++ Take place ∷ []) ticket
    ticket_for sense ticket done needs here same items given = record {
      taken =
          is_taken_last events (Take place) (place_of ticket) ∙ ap (λ b. is_taken (place_of ticket) events || b) (eq-eqb place (place_of ticket) (sym here)) ∙ last (is_taken (place_of ticket) events);
      task = task;
      there = ap (slice_get tasks) here ∙ (first.0.1.there ∙ ap Some found);
      given =
          given_stays sense (put_of events) (put_of (events ++ Take place ∷ [])) (put_of_stays events (Take place ∷ [])) task.needs.items (map sense (given_to ticket))
          (subst (λ (ns : List (Need H)). AreGiven sense (put_of events) ns (map sense (given_to ticket))) items
          (subst (λ (f : ℕ → Option (P × H)). AreGiven sense f needs (map sense (given_to ticket))) same given));
    }
      where
        last : (b : Bool) → (b || true) ≡ true
        last true = refl
        last false = refl

module _ {J H P S : Type 0} (arity : J → ℕ) (JobFits : J → Type 0) (HeldFits : H → Type 0) (sense : H → S) (Belongs : J → List S → P → S → Type 0) (tasks : List (Task J H)) where
  pub values_fit : (events : List (Event P H)) (place : ℕ) (task : Task J H) (needs : List (Need H)) → IsInOrder arity JobFits HeldFits sense Belongs tasks events → place < length tasks
      → task ≡ get_or tasks place task → needs ≡ task.needs.items → All (OnValue HeldFits) needs
  values_fit events place task needs order within is items =
      let fits : Fits arity JobFits HeldFits place task = subst (Fits arity JobFits HeldFits place) (sym is) (order.window place task within) in
      subst (λ (ns : List (Need H)). All (OnValue HeldFits) ns) (sym items) fits.values

  pub held_fit : (events : List (Event P H)) (done : ℕ → Option (P × H)) → IsInOrder arity JobFits HeldFits sense Belongs tasks events → done ≡ put_of events → HoldFitting HeldFits done
  held_fit events done order same = subst (HoldFitting HeldFits) (sym same) order.held

  -- what a ticket's task and values have to fit
  pub ticket_fits : (events : List (Event P H)) (ticket : Ticket H) → IsInOrder arity JobFits HeldFits sense Belongs tasks events → IsFor sense tasks events ticket → All HeldFits (given_to ticket)
      → TicketFits arity JobFits HeldFits tasks ticket
  ticket_fits events ticket order for' given =
      let fits : Fits arity JobFits HeldFits (place_of ticket) for'.task =
      subst (Fits arity JobFits HeldFits (place_of ticket)) (get_or_from_slice_get tasks (place_of ticket) for'.task for'.task for'.there)
      (order.window (place_of ticket) for'.task (slice_get_within tasks (place_of ticket) for'.task for'.there)) in
      record {
        task = for'.task;
        there = for'.there;
        job = fits.job;
        count =
            sym (length-map (given_to ticket) sense) ∙ (sym (length-map (map sense (given_to ticket)) Some) ∙ (sym (ap length for'.given)
            ∙ (length-map for'.task.needs.items (meaning_of sense (put_of events)) ∙ fits.count)));
        given = given;
      }

  pub order_take : (events : List (Event P H)) (place : ℕ) → IsInOrder arity JobFits HeldFits sense Belongs tasks events → IsFirstReady tasks events place
      → IsInOrder arity JobFits HeldFits sense Belongs tasks (events ++ Take place ∷ [])
  order_take events place order first = record {
    window = order.window;
    run = Runs-more tasks sense Belongs [] events (Take place) order.run first;
    held = λ n answer h. elim (first_of (put_of events n) None answer (sym (put_of_append events (Take place ∷ []) n) ∙ h)) [
      | inl old ↦ order.held n answer old
      | inr none ↦ absurd (cc (none))
    ];
  }

  order_put : (events : List (Event P H)) (ticket : Ticket H) (reply : P) (held : H) → IsInOrder arity JobFits HeldFits sense Belongs tasks events
      → IsFor sense tasks events ticket → Answers sense tasks Belongs ticket reply held → HeldFits held → is_done (place_of ticket) events ≡ false
      → IsInOrder arity JobFits HeldFits sense Belongs tasks (events ++ Put (place_of ticket) reply held ∷ [])
  order_put events ticket reply held order for' belongs fits open' = record {
    window = order.window;
    run =
        Runs-more tasks sense Belongs [] events (Put (place_of ticket) reply held) order.run (
          for'.taken,
          open',
          record {
            task = for'.task;
            there = for'.there;
            answer = record {
              given = map sense (given_to ticket);
              are_given = for'.given;
              belongs = belongs for'.task for'.there;
            };
          },
        );
    held = λ n answer h. elim (first_of (put_of events n) (put_of (Put (place_of ticket) reply held ∷ []) n) answer (sym (put_of_append events (Put (place_of ticket) reply held ∷ []) n) ∙ h)) [
      | inl old ↦ order.held n answer old
      | inr new ↦ put_fits (place_of ticket == n) answer new
    ];
  }
    where
      put_fits : (b : Bool) (answer : P × H) → (if b then Some (reply, held) else None) ≡ Some answer → HeldFits answer.1
      put_fits true answer new = let equal : ◌≡◌ {A = P × H} (reply, held) answer = cc in subst (λ (a : P × H). HeldFits a.1) equal fits
      put_fits false answer new = absurd (cc (new))

-- a put, unless the task is done
abbrev pub Puts : {P H : Type 0} → List (Event P H) → List (Event P H) → ℕ → P → H → Type 0
Puts events new place reply held = MatchBool (is_done place events) (new ≡ events) (new ≡ events ++ Put place reply held ∷ [])

module _ {P H : Type 0} (events new : List (Event P H)) (place : ℕ) (reply : P) (held : H) where
  done_after : is_done place (events ++ Put place reply held ∷ []) ≡ true
  done_after = ap is_some (put_of_append events (Put place reply held ∷ []) place) ∙ some (put_of events place) (place == place) (eq-eqb place place refl)
    where
      some : (o : Option (P × H)) (b : Bool) → b ≡ true → is_some (if is_some o then o else (if b then Some (reply, held) else None)) ≡ true
      some None true is = refl
      some None false is = absurd cc
      some (Some a) b is = refl

  -- the task is done afterwards
  pub put_done : Puts events new place reply held → is_done place new ≡ true
  put_done = cases (is_done place events) refl
    where
      cases : (b : Bool) → is_done place events ≡ b → MatchBool b (new ≡ events) (new ≡ events ++ Put place reply held ∷ []) → is_done place new ≡ true
      cases true is same = ap (is_done place) same ∙ is
      cases false is more = ap (is_done place) more ∙ done_after

  pub put_grown : Puts events new place reply held → IsPrefix events new
  put_grown = cases (is_done place events)
    where
      cases : (b : Bool) → MatchBool b (new ≡ events) (new ≡ events ++ Put place reply held ∷ []) → IsPrefix events new
      cases true same = ([], append-nil events ∙ sym same)
      cases false more = (Put place reply held ∷ [], sym more)

pub order_after : {J H P S : Type 0} (arity : J → ℕ) (JobFits : J → Type 0) (HeldFits : H → Type 0) (sense : H → S) (Belongs : J → List S → P → S → Type 0) (tasks : List (Task J H))
    (events new : List (Event P H)) (ticket : Ticket H) (reply : P) (held : H) → IsInOrder arity JobFits HeldFits sense Belongs tasks events → IsFor sense tasks events ticket
    → Answers sense tasks Belongs ticket reply held → HeldFits held → Puts events new (place_of ticket) reply held → IsInOrder arity JobFits HeldFits sense Belongs tasks new
order_after {P = P} arity JobFits HeldFits sense Belongs tasks events new ticket reply held order for' belongs fits = cases (is_done (place_of ticket) events) refl
  where
    cases : (b : Bool) → is_done (place_of ticket) events ≡ b → MatchBool b (new ≡ events) (new ≡ events ++ Put (place_of ticket) reply held ∷ [])
        → IsInOrder arity JobFits HeldFits sense Belongs tasks new
    cases true is same = subst (λ (es : List (Event P _)). IsInOrder arity JobFits HeldFits sense Belongs tasks es) (sym same) order
    cases false is more =
        subst (λ (es : List (Event P _)). IsInOrder arity JobFits HeldFits sense Belongs tasks es) (sym more)
        (order_put arity JobFits HeldFits sense Belongs tasks events ticket reply held order for' belongs fits is)
