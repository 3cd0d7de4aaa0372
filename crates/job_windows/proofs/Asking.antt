-- What one more line asks for, by the names that stand before it.
use Rattle.std.proofs.Common.{◌≡◌, ◌⊎◌, ℕ, ◌+◌, Bool, true, false, cond, List, [], ◌∷◌, ◌++◌, map, length, refl, sym, ap, ◌∙◌, subst, inl, inr, arith, length-append}
use Rattle.std.specs.Prelude.{Option, Some, None, Ok, option_map, is_some, slice_get, slice_index_or, unwrap_or}
use Rattle.std.specs.HashMap.{get_by_text}
use Rattle.std.specs.List.{All}
use Rattle.std.proofs.lemmas.List.Elements.{All-cons, All-map, All-append}
use Rattle.std.proofs.lemmas.List.{length-map, get_or-append-add}
use Rattle.std.proofs.lemmas.Option.{slice_get-map, slice_get-get_or, slice_get_past, slice_get_cases, slice_get_within, get_or_from_slice_get}
use Rattle.cut_elim.specs.declared.desk.Desk.{Desk}
use Rattle.job_lang.specs.declared.jobs.Op.{Op}
use Rattle.job_lang.specs.FormedOps.{IsFormedOp}
use Rattle.job_workers.specs.declared.tasks.Need.{Need}
use Rattle.job_workers.specs.declared.tasks.Need.TheVariants.{Value as ByValue, Task as OfTask}
use Rattle.job_workers.specs.declared.tasks.Task.{Task}
use Rattle.job_workers.specs.Needs.{meaning_of, IsBefore, OnValue, IsAnswer}
use Rattle.operation_laws.specs.Values.{Value}
use Rattle.operation_laws.specs.Given.{base_name, names_in}
use Rattle.operation_laws.specs.Running.{run}
use Rattle.held_values.specs.declared.held.Held.{Held}
use Rattle.held_values.specs.declared.held.Held.TheVariants as held
use Rattle.held_values.specs.Means.{sense}
use Rattle.reply_lines.specs.declared.replies.Outcome.{Outcome}
use Rattle.reply_lines.specs.declared.replies.Outcome.TheVariants.{NameTaken}
use Rattle.session_laws.specs.Answers.{Past, JobFault, name_taken, Request, no_operation, an_operation, Came as Ran, faulty, Lookup, shown_fault, values_for, name_of, run_read, run_line, held_of}
use Rattle.job_windows.specs.Names.{Knows}
use Rattle.job_windows.specs.Running.{Belongs, FitsDesk, IsConclusion, IsUnnamed}
use Rattle.job_windows.specs.Windows.{need_by, needs_at, need_at, need_named, AreInOrder, due_by, IsAsked}
use Rattle.job_windows.specs.Means.{AreTasks, AreRunnable}
use Rattle.job_windows.specs.declared.names.Names.{Names}
use Rattle.job_windows.specs.declared.seats.Asks.{Asks}
use Rattle.job_windows.specs.declared.seats.Asks.TheVariants.{Refused, Run}
use Rattle.job_windows.specs.declared.seats.Seat.{Seat}
use Rattle.job_windows.specs.declared.seats.Due.{Due}
use Rattle.job_windows.proofs.Lists.{stays_there, stands_next}
use Rattle.job_windows.proofs.Learned.{IsMeant}
use Rattle.job_windows.proofs.Named.{given_once, given_by_names, needs_mean}
use Rattle.job_windows.proofs.Answered.{concluded}
use Rattle.job_windows.proofs.Gathering.{window_more}
use Rattle.job_windows.proofs.Merging.{order_bound}

-- a line that is refused before it is run comes to just that
refused_is_faulty : (outcome : Outcome) (f : JobFault) (r : Request) → r ≡ no_operation f → outcome ≡ shown_fault f → (came : Ran) × IsConclusion outcome held.Refused r came
refused_is_faulty outcome f r is shown =
    (faulty f, subst (λ (x : Request). IsConclusion outcome held.Refused x (faulty f)) (sym is) (record { allowed = refl; outcome_is = shown; means = refl }))

pub asked_fault : (names : Names) (hs : List Held) (seats : List Seat) (tasks : List (Task Op Held)) (line : List ℕ) (outcome : Outcome) (f : JobFault)
    → ((lookup : Lookup) → run_line lookup line ≡ no_operation f) → outcome ≡ shown_fault f → IsAsked names hs seats tasks line (Refused outcome)
asked_fault names hs seats tasks line outcome f is shown = λ done all dues found.
    ((outcome, held.Refused), refl, λ earlier known. inr (refused_is_faulty outcome f (run_line (held_of earlier) line) (is (held_of earlier)) shown))

-- whether a name is taken is known of the names
taken_is : (held : List (Option Value)) (place : Option ℕ) (v : Option Value) → IsMeant held place v → is_some v ≡ is_some place
taken_is held None None is = refl
taken_is held (Some i) (Some w) is = refl
taken_is held None (Some w) is = cc
taken_is held (Some i) None is = cc

run_by : (lookup : Lookup) (name : List ℕ) (op : Op) (b : Bool) → is_some (lookup name) ≡ b
    → run_read lookup (Some name) (Ok op) ≡ cond b (no_operation name_taken) (an_operation (run op (values_for lookup op)))
run_by lookup name op b is = ap (λ (taken : Bool). cond taken (no_operation name_taken) (an_operation (run op (values_for lookup op)))) is

module _ (names : Names) (hs : List Held) (seats : List Seat) (line name : List ℕ) (op : Op) (named : Some name ≡ name_of line)
    (reads : (lookup : Lookup) → run_line lookup line ≡ run_read lookup (name_of line) (Ok op)) where
  runs : (earlier : List Past) (b : Bool) → is_some (held_of earlier name) ≡ b
      → run_line (held_of earlier) line ≡ cond b (no_operation name_taken) (an_operation (run op (values_for (held_of earlier) op)))
  runs earlier b is = reads (held_of earlier) ∙ ap (λ (n : Option (List ℕ)). run_read (held_of earlier) n (Ok op)) (sym named) ∙ run_by (held_of earlier) name op b is

  pub asked_taken : (tasks : List (Task Op Held)) → is_some (get_by_text names.places name) ≡ true → IsAsked names hs seats tasks line (Refused NameTaken)
  asked_taken tasks there = λ done all dues found. (
    (NameTaken, held.Refused),
    refl,
    λ earlier known. inr (refused_is_faulty NameTaken name_taken (run_line (held_of earlier) line)
        (runs earlier true (taken_is (map sense hs ++ map (λ (d : Due). sense d.held) dues) (get_by_text names.places name) (held_of earlier name) (known name) ∙ there)) refl),
  )

  pub asked_task : (tasks : List (Task Op Held)) (task : Task Op Held) → is_some (get_by_text names.places name) ≡ false → task.job ≡ op
      → task.needs.items ≡ map (λ text. need_named names (needs_at hs seats) (base_name text)) (names_in op)
      → IsAsked names hs seats (tasks ++ task ∷ []) line (Run (length tasks))
  asked_task tasks task absent job needs = λ done all dues found.
      let its = all (length tasks) task (stands_next tasks task) in
      (its.0, its.1, λ earlier known. at done dues found earlier known its.0 its.2)
    where
      at : (done : ℕ → Option (Outcome × Held)) (dues : List Due) → map (due_by done) seats ≡ map Some dues → (earlier : List Past)
          → Knows names (map sense hs ++ map (λ (d : Due). sense d.held) dues) earlier → (answer : Outcome × Held) → IsAnswer sense done Belongs task answer.0 answer.1
          → IsUnnamed answer.0 answer.1 ⊎ ((came : Ran) × IsConclusion answer.0 answer.1 (run_line (held_of earlier) line) came)
      at done dues found earlier known answer is =
          let whole = map sense hs ++ map (λ (d : Due). sense d.held) dues in
          let free = taken_is whole (get_by_text names.places name) (held_of earlier name) (known name) ∙ absent in
          let stands = given_by_names done names (needs_at hs seats) whole earlier (needs_mean done hs seats dues found) known op in
          let given : is.given ≡ values_for (held_of earlier) op =
          given_once is.given (values_for (held_of earlier) op) (sym is.are_given ∙ ap (map (meaning_of sense done)) needs ∙ stands) in
          let belongs : Belongs op (values_for (held_of earlier) op) answer.0 (sense answer.1) =
          subst (λ (o : Op). Belongs o (values_for (held_of earlier) op) answer.0 (sense answer.1)) job
          (subst (λ vs. Belongs task.job vs answer.0 (sense answer.1)) given is.belongs) in
          subst (λ (r : Request). IsUnnamed answer.0 answer.1 ⊎ ((came : Ran) × IsConclusion answer.0 answer.1 r came)) (sym (runs earlier false free))
          (concluded answer.0 answer.1 (run op (values_for (held_of earlier) op)) belongs)

  -- the same of tasks behind which it was pushed
  pub asked_pushed : (tasks new : List (Task Op Held)) (task : Task Op Held) (place : ℕ) → new ≡ tasks ++ task ∷ [] → place ≡ length tasks
      → is_some (get_by_text names.places name) ≡ false → task.job ≡ op
      → task.needs.items ≡ map (λ text. need_named names (needs_at hs seats) (base_name text)) (names_in op) → IsAsked names hs seats new line (Run place)
  asked_pushed tasks new task place pushed at absent job needs =
      subst (λ (ts : List (Task Op Held)). IsAsked names hs seats ts line (Run place)) (sym pushed)
      (subst (λ (k : ℕ). IsAsked names hs seats (tasks ++ task ∷ []) line (Run k)) (sym at) (asked_task tasks task absent job needs))

-- what is there, or nothing
needs_of_names : (P : Need Held → Type 0) (needs : List (Need Held)) → All P needs → P (ByValue held.Unknown) → (place : Option ℕ) → P (need_at needs place)
needs_of_names P needs all unknown None = unknown
needs_of_names P needs all unknown (Some place) = at (slice_get needs place) refl
  where
    at : (o : Option (Need Held)) → slice_get needs place ≡ o → P (unwrap_or o (ByValue held.Unknown))
    at None is = unknown
    at (Some need) is =
        subst P (get_or_from_slice_get needs place need need is) (all place need (slice_get_within needs place need is))

-- the tasks of the seats are before the next one
seats_before : (seats : List Seat) (k n : ℕ) → AreInOrder k seats n → All (λ (need : Need Held). IsBefore n need) (map (λ seat. need_by seat.asks) seats)
seats_before [] k n order = λ i d within. absurd (omega arith)
seats_before (seat ∷ seats) k n order = by_asks (λ m. seats_before seats m n) seat.asks order
  where
    by_asks : ((m : ℕ) → AreInOrder m seats n → All (λ (need : Need Held). IsBefore n need) (map (λ s. need_by s.asks) seats)) → (asks : Asks) → (elim asks as (λ x. Type 0) [ Refused outcome ↦ AreInOrder k seats n | Run place ↦ (place ≡ k) × AreInOrder (k + 1) seats n ])
        → All (λ (need : Need Held). IsBefore n need) (need_by asks ∷ map (λ s. need_by s.asks) seats)
    by_asks before (Refused outcome) is = All-cons (λ (need : Need Held). IsBefore n need) (ByValue held.Refused) (map (λ s. need_by s.asks) seats) tt (before k is)
    by_asks before (Run place) is =
        All-cons (λ (need : Need Held). IsBefore n need) (OfTask place) (map (λ s. need_by s.asks) seats)
        (let bound = order_bound seats (k + 1) n is.1 in omega (arith, is.0)) (before (k + 1) is.1)

seats_fit : (desk : Desk) (seats : List Seat) → All (OnValue (FitsDesk desk)) (map (λ seat. need_by seat.asks) seats)
seats_fit desk [] = λ i d within. absurd (omega arith)
seats_fit desk (seat ∷ seats) = by_asks (seats_fit desk seats) seat.asks
  where
    by_asks : All (OnValue (FitsDesk desk)) (map (λ s. need_by s.asks) seats) → (asks : Asks) → All (OnValue (FitsDesk desk)) (need_by asks ∷ map (λ s. need_by s.asks) seats)
    by_asks rest (Refused outcome) = All-cons (OnValue (FitsDesk desk)) (ByValue held.Refused) (map (λ s. need_by s.asks) seats) tt rest
    by_asks rest (Run place) = All-cons (OnValue (FitsDesk desk)) (OfTask place) (map (λ s. need_by s.asks) seats) tt rest

module _ (desk : Desk) (names : Names) (hs : List Held) (seats : List Seat) (tasks : List (Task Op Held)) (op : Op) (runnable : AreRunnable desk hs seats tasks) where
  all_before : All (IsBefore (length tasks)) (needs_at hs seats)
  all_before = All-append (IsBefore (length tasks)) (map ByValue hs) (map (λ seat. need_by seat.asks) seats)
      (All-map (IsBefore (length tasks)) ByValue hs (λ k d within. tt)) (seats_before seats 0 (length tasks) runnable.ordered)

  all_fit : All (OnValue (FitsDesk desk)) (needs_at hs seats)
  all_fit = All-append (OnValue (FitsDesk desk)) (map ByValue hs) (map (λ seat. need_by seat.asks) seats)
      (All-map (OnValue (FitsDesk desk)) ByValue hs runnable.fits) (seats_fit desk seats)

  -- one more task may be run behind the others
  pub tasks_more : (task : Task Op Held) → IsFormedOp op → task.job ≡ op
      → task.needs.items ≡ map (λ text. need_named names (needs_at hs seats) (base_name text)) (names_in op) → AreTasks desk (tasks ++ task ∷ [])
  tasks_more task formed job needs =
      window_more (λ o. length (names_in o)) IsFormedOp (FitsDesk desk) tasks task runnable.tasks_are (record {
        earlier = subst (All (IsBefore (length tasks))) (sym needs)
            (All-map (IsBefore (length tasks)) (λ text. need_named names (needs_at hs seats) (base_name text)) (names_in op)
            (λ k d within. needs_of_names (IsBefore (length tasks)) (needs_at hs seats) all_before tt (get_by_text names.places (base_name (slice_index_or (names_in op) k d)))));
        count = ap length needs ∙ length-map (names_in op) (λ text. need_named names (needs_at hs seats) (base_name text)) ∙ ap (λ (o : Op). length (names_in o)) (sym job);
        job = subst IsFormedOp (sym job) formed;
        values = subst (All (OnValue (FitsDesk desk))) (sym needs)
            (All-map (OnValue (FitsDesk desk)) (λ text. need_named names (needs_at hs seats) (base_name text)) (names_in op)
            (λ k d within. needs_of_names (OnValue (FitsDesk desk)) (needs_at hs seats) all_fit tt (get_by_text names.places (base_name (slice_index_or (names_in op) k d)))));
      })

-- what stands for a job that is held, and for one of the window
pub need_of_held : (hs : List Held) (seats : List Seat) (place : ℕ) (h : Held) → slice_get hs place ≡ Some h → need_at (needs_at hs seats) (Some place) ≡ ByValue h
need_of_held hs seats place h is =
    ap (λ o. unwrap_or o (ByValue held.Unknown))
    (stays_there (map ByValue hs) (map (λ seat. need_by seat.asks) seats) place (ByValue h) (slice_get-map ByValue hs place ∙ ap (option_map ByValue) is))

behind : (xs ys : List (Need Held)) (i n : ℕ) → i ≡ length xs + n → slice_get (xs ++ ys) i ≡ slice_get ys n
behind xs ys i n is = ap (slice_get (xs ++ ys)) is ∙ elim (slice_get_cases ys n).1 [
  | inl there ↦ slice_get-get_or (xs ++ ys) (length xs + n) there.0 (let within = there.1 in omega (arith, length-append xs ys))
      ∙ ap Some (get_or-append-add xs ys n there.0 ∙ get_or_from_slice_get ys n there.0 there.0 there.2) ∙ sym there.2
  | inr past ↦ slice_get_past (xs ++ ys) (length xs + n) (let at = past.0 in omega (arith, length-append xs ys)) ∙ sym past.1
]

pub need_of_seat : (hs : List Held) (seats : List Seat) (place n : ℕ) (o : Option Seat) → place ≡ length hs + n → slice_get seats n ≡ o
    → need_at (needs_at hs seats) (Some place) ≡ unwrap_or (option_map (λ (seat : Seat). need_by seat.asks) o) (ByValue held.Unknown)
need_of_seat hs seats place n o is found =
    ap (λ x. unwrap_or x (ByValue held.Unknown))
    (behind (map ByValue hs) (map (λ seat. need_by seat.asks) seats) place n (is ∙ ap (λ k. k + n) (sym (length-map hs ByValue)))
    ∙ slice_get-map (λ seat. need_by seat.asks) seats n ∙ ap (option_map (λ (seat : Seat). need_by seat.asks)) found)
