-- What is due once the tasks of a window are run.
use Rattle.std.proofs.Common.{◌≡◌, ℕ, ◌+◌, ◌≤◌, List, [], ◌∷◌, map, length, refl, sym, ap, ◌∙◌, subst, inl, inr, arith}
use Rattle.std.specs.Prelude.{Option, Some, None, option_map, slice_get, vec_capacity}
use Rattle.std.specs.List.{All}
use Rattle.std.proofs.lemmas.List.{length-map}
use Rattle.std.proofs.lemmas.List.Elements.{All-cons}
use Rattle.std.proofs.lemmas.Option.{slice_get_cases, slice_get_within, get_or_from_slice_get}
use Rattle.cut_elim.specs.declared.desk.Desk.{Desk}
use Rattle.job_lang.specs.declared.jobs.Op.{Op}
use Rattle.job_workers.specs.declared.tasks.Task.{Task}
use Rattle.job_workers.specs.Needs.{IsAnswer, AreAnswers}
use Rattle.held_values.specs.declared.held.Held.{Held}
use Rattle.held_values.specs.declared.held.Held.TheVariants as held
use Rattle.held_values.specs.Means.{sense}
use Rattle.reply_lines.specs.declared.replies.Outcome.{Outcome}
use Rattle.session_laws.specs.Answers.{Past}
use Rattle.job_windows.specs.Running.{Belongs, FitsDesk}
use Rattle.job_windows.specs.Windows.{AreInOrder, answer_by, due_by, AreAnswered, AreDue}
use Rattle.job_windows.specs.Means.{HasPass, IsStore, IsGathered, IsPending}
use Rattle.job_windows.specs.declared.seats.Asks.{Asks}
use Rattle.job_windows.specs.declared.seats.Asks.TheVariants.{Refused, Run}
use Rattle.job_windows.specs.declared.seats.Seat.{Seat}
use Rattle.job_windows.specs.declared.seats.Due.{Due}
use Rattle.job_windows.specs.declared.seats.Window.{Window}
use Rattle.job_windows.specs.declared.store.Store.{Store}
use Rattle.job_windows.proofs.Named.{given_once}

-- each task has an answer where there are as many answers as tasks
all_answered : (tasks : List (Task Op Held)) (answers : List (Outcome × Held)) → AreAnswers sense Belongs tasks (slice_get answers) → length answers ≡ length tasks → AreAnswered (slice_get answers) tasks
all_answered tasks answers belong sized place task there = elim (slice_get_cases answers place).1 [
  | inl found ↦
      let answer = found.0 in
      let at = belong place answer.0 answer.1 found.2 in
      let same : at.task ≡ task = cc_same at.task at.there in
      (answer, found.2, subst (λ (t : Task Op Held). IsAnswer sense (slice_get answers) Belongs t answer.0 answer.1) same at.answer)
  | inr past ↦ absurd (let within = slice_get_within tasks place task there in let beyond = past.0 in omega (arith, sized))
]
  where
    cc_same : (other : Task Op Held) → slice_get tasks place ≡ Some other → other ≡ task
    cc_same other is = let both : Some other ≡ Some task = sym is ∙ there in cc

-- what is due fits where what was answered does
due_fits : (desk : Desk) (answers : List (Outcome × Held)) → All (λ (answer : Outcome × Held). FitsDesk desk answer.1) answers
    → (seat : Seat) (due : Due) → due_by (slice_get answers) seat ≡ Some due → FitsDesk desk due.held
due_fits desk answers fits seat due is = by_asks seat.asks is
  where
    by_answer : (o : Option (Outcome × Held)) → ((answer : Outcome × Held) → o ≡ Some answer → FitsDesk desk answer.1)
        → option_map (λ (answer : Outcome × Held). record { name = seat.name; outcome = answer.0; held = answer.1 }) o ≡ Some due → FitsDesk desk due.held
    by_answer None fit same = cc
    by_answer (Some answer) fit same = let held : answer.1 ≡ due.held = cc in subst (FitsDesk desk) held (fit answer refl)

    by_asks : (asks : Asks) → option_map (λ (answer : Outcome × Held). record { name = seat.name; outcome = answer.0; held = answer.1 }) (answer_by (slice_get answers) asks) ≡ Some due
        → FitsDesk desk due.held
    by_asks (Refused outcome) same = let held : held.Refused ≡ due.held = cc in subst (FitsDesk desk) held tt
    by_asks (Run place) same =
        by_answer (slice_get answers place)
        (λ answer found. subst (λ (a : Outcome × Held). FitsDesk desk a.1) (get_or_from_slice_get answers place answer answer found) (fits place answer (slice_get_within answers place answer found)))
        same

dues_fit : (desk : Desk) (answers : List (Outcome × Held)) → All (λ (answer : Outcome × Held). FitsDesk desk answer.1) answers
    → (seats : List Seat) (dues : List Due) → map (due_by (slice_get answers)) seats ≡ map Some dues → All (λ (due : Due). FitsDesk desk due.held) dues
dues_fit desk answers fits [] [] same = λ k d within. absurd (omega arith)
dues_fit desk answers fits [] (due ∷ dues) same = cc
dues_fit desk answers fits (seat ∷ seats) [] same = cc
dues_fit desk answers fits (seat ∷ seats) (due ∷ dues) same =
    let head : due_by (slice_get answers) seat ≡ Some due = cc in
    let tail : map (due_by (slice_get answers)) seats ≡ map Some dues = cc in
    All-cons (λ (d : Due). FitsDesk desk d.held) due dues (due_fits desk answers fits seat due head) (dues_fit desk answers fits seats dues tail)

-- as many answers are due as there are seats
as_many_dues : (answers : List (Outcome × Held)) (seats : List Seat) (dues : List Due) → map (due_by (slice_get answers)) seats ≡ map Some dues → length dues ≡ length seats
as_many_dues answers seats dues made = sym (length-map dues Some) ∙ sym (ap length made) ∙ length-map seats (due_by (slice_get answers))

-- the answers of the tasks make what is due for each job
pub pending_after : (desk : Desk) (old new : Store) (window : Window) (earlier : List Past) (lines : List (List ℕ)) (answers : List (Outcome × Held)) (dues : List Due)
    → IsGathered desk old window earlier lines → HasPass desk new → new.names ≡ old.names → new.held.items ≡ old.held.items
    → length new.held.items + length window.seats.items ≤ vec_capacity new.held
    → AreAnswers sense Belongs window.tasks.items (slice_get answers) → length answers ≡ length window.tasks.items → All (λ (answer : Outcome × Held). FitsDesk desk answer.1) answers
    → map (due_by (slice_get answers)) window.seats.items ≡ map Some dues → IsPending desk new earlier lines dues
pending_after desk old new window earlier lines answers dues gathered pass names held room belong sized fits made =
    let promised = gathered.promised (slice_get answers) (all_answered window.tasks.items answers belong sized) in
    let same : promised.dues ≡ dues = given_once promised.dues dues (sym promised.found ∙ made) in
    record {
      holds = record {
        pass = pass;
        sized = ap length held ∙ gathered.holds.sized;
        fits = subst (All (FitsDesk desk)) (sym held) gathered.holds.fits;
      };
      fits = dues_fit desk answers fits window.seats.items dues made;
      room = λ some. let many = as_many_dues answers window.seats.items dues made in omega (arith, room, many);
      due = subst (λ ns. AreDue ns (map sense new.held.items) earlier lines dues) (sym names)
          (subst (λ (hs : List Held). AreDue old.names (map sense hs) earlier lines dues) (sym held)
          (subst (AreDue old.names (map sense old.held.items) earlier lines) same promised.due));
    }

-- where nothing is due any more, an empty window has no job
pub empty_gathered : (desk : Desk) (store : Store) (window : Window) (earlier : List Past) (lines : List (List ℕ)) → IsPending desk store earlier lines [] → lines ≡ []
    → window.seats.items ≡ [] → window.tasks.items ≡ [] → IsGathered desk store window earlier lines
empty_gathered desk store window earlier lines pending none seats tasks = record {
  holds = pending.holds;
  runnable = λ place task within. absurd (omega (arith, within, ap length tasks));
  ordered = subst (λ (ss : List Seat). AreInOrder 0 ss (length window.tasks.items)) (sym seats) (sym (ap length tasks));
  counted = ap length seats ∙ sym (ap length none);
  promised = λ done all. record { dues = []; found = ap (map (due_by done)) seats; due = pending.due };
}

-- nothing is due behind a store
pub nothing_due : (desk : Desk) (store : Store) (earlier : List Past) → IsStore desk store earlier → IsPending desk store earlier [] []
nothing_due desk store earlier is = record { holds = is.holds; fits = λ k d within. absurd (omega arith); room = λ some. absurd (omega (arith, some)); due = is.known }
