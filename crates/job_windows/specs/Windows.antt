-- What is known of the jobs of a window before they are run, and what they are answered.
--     need_named      what an operation is given for a name
--     AreDue      each job is answered, after those before it
--     IsPromised      with these answers of the tasks, each job of the window is answered
--     IsAsked      so is what one more line asks for
use Rattle.std.specs.Prelude.{◌≡◌, ◌⊎◌, ℕ, ◌+◌, List, [], ◌∷◌, ◌++◌, length, map, slice_get, Option, Some, None, option_map, unwrap_or}
use Rattle.std.specs.HashMap.{get_by_text}
use Rattle.job_lang.specs.declared.jobs.Op.{Op}
use Rattle.reply_lines.specs.declared.replies.Outcome.{Outcome}
use Rattle.job_workers.specs.declared.tasks.Need.{Need}
use Rattle.job_workers.specs.declared.tasks.Need.TheVariants.{Value as ByValue, Task as OfTask}
use Rattle.job_workers.specs.declared.tasks.Task.{Task}
use Rattle.job_workers.specs.Needs.{IsAnswer}
use Rattle.operation_laws.specs.Values.{Value}
use Rattle.held_values.specs.declared.held.Held.{Held}
use Rattle.held_values.specs.declared.held.Held.TheVariants as held
use Rattle.held_values.specs.Means.{sense}
use Rattle.session_laws.specs.Answers.{Past, Came, job_of, name_of, run_line, held_of}
use Rattle.job_windows.specs.declared.names.Names.{Names}
use Rattle.job_windows.specs.declared.seats.Asks.{Asks}
use Rattle.job_windows.specs.declared.seats.Asks.TheVariants.{Refused, Run}
use Rattle.job_windows.specs.declared.seats.Seat.{Seat}
use Rattle.job_windows.specs.declared.seats.Due.{Due}
use Rattle.job_windows.specs.Names.{Knows}
use Rattle.job_windows.specs.Running.{Belongs, IsConclusion, IsUnnamed}

-- what a later operation is given that names the job
abbrev pub need_by : Asks → Need Held
need_by (Refused outcome) = ByValue held.Refused
need_by (Run place) = OfTask place

-- the same for each job of a session: what the jobs before the window hold, and the jobs of the window
abbrev pub needs_at : List Held → List Seat → List (Need Held)
needs_at held seats = map ByValue held ++ map (λ seat. need_by seat.asks) seats

-- what stands at a place, where there is one
abbrev pub need_at : List (Need Held) → Option ℕ → Need Held
need_at needs None = ByValue held.Unknown
need_at needs (Some place) = unwrap_or (slice_get needs place) (ByValue held.Unknown)

abbrev pub need_named : Names → List (Need Held) → List ℕ → Need Held
need_named names needs q = need_at needs (get_by_text names.places q)

-- the tasks of the jobs have the places from k to n, in order
abbrev pub AreInOrder : ℕ → List Seat → ℕ → Type 0
AreInOrder k [] n = k ≡ n
AreInOrder k (seat ∷ seats) n = elim seat.asks [ Refused outcome ↦ AreInOrder k seats n | Run place ↦ (place ≡ k) × AreInOrder (k + 1) seats n ]

-- What the jobs of these lines are answered, which come after earlier ones that hold these values: a line has its name, and what its job is
-- answered is what the line comes to, down to a job for whose refusal there was no memory. In the end the names are those of all jobs.
abbrev pub AreDue : Names → List (Option Value) → List Past → List (List ℕ) → List Due → Type 0
AreDue names held earlier [] [] = Knows names held earlier
AreDue names held earlier (line ∷ lines) (due ∷ dues) = (due.name ≡ name_of line)
    × (IsUnnamed due.outcome due.held
    ⊎ ((came : Came) × IsConclusion due.outcome due.held (run_line (held_of earlier) line) came
    × AreDue names (held ++ sense due.held ∷ []) (job_of line came ∷ earlier) lines dues))
AreDue names held earlier [] (due ∷ dues) = ⊥
AreDue names held earlier (line ∷ lines) [] = ⊥

-- where `done` gives the answers of the tasks
module _ (done : ℕ → Option (Outcome × Held)) where
  abbrev pub answer_by : Asks → Option (Outcome × Held)
  answer_by (Refused outcome) = Some (outcome, held.Refused)
  answer_by (Run place) = done place

  -- what the job of a seat is answered
  abbrev pub due_by : Seat → Option Due
  due_by seat = option_map (λ answer. record { name = seat.name; outcome = answer.0; held = answer.1 }) (answer_by seat.asks)

  -- each task has an answer, which belongs to it
  abbrev pub AreAnswered : List (Task Op Held) → Type 0
  AreAnswered tasks = (place : ℕ) (task : Task Op Held) → slice_get tasks place ≡ Some task
      → (answer : Outcome × Held) × (done place ≡ Some answer) × IsAnswer sense done Belongs task answer.0 answer.1

  -- with these answers of the tasks each job of the window is answered
  pub record IsPromised (names : Names) (held : List Held) (earlier : List Past) (lines : List (List ℕ)) (seats : List Seat) : Type 0 where
    pub dues : List Due
    pub found : map due_by seats ≡ map Some dues
    pub due : AreDue names (map sense held) earlier lines dues

-- a task that is asked for stands behind the others, and a refusal adds none
abbrev pub Adds : List (Task Op Held) → List (Task Op Held) → Asks → Type 0
Adds old new (Refused outcome) = new ≡ old
Adds old new (Run place) = (place ≡ length old) × ((task : Task Op Held) × (new ≡ old ++ task ∷ []))

-- What is asked for by a line is answered by what the tasks are answered, with what the line comes to after jobs that the names stand for.
abbrev pub IsAsked : Names → List Held → List Seat → List (Task Op Held) → List ℕ → Asks → Type 0
IsAsked names held seats tasks line asks = (done : ℕ → Option (Outcome × Held)) → AreAnswered done tasks → (dues : List Due) → map (due_by done) seats ≡ map Some dues
    → (answer : Outcome × Held) × (answer_by done asks ≡ Some answer)
    × ((earlier : List Past) → Knows names (map sense held ++ map (λ (due : Due). sense due.held) dues) earlier
    → IsUnnamed answer.0 answer.1 ⊎ ((came : Came) × IsConclusion answer.0 answer.1 (run_line (held_of earlier) line) came))
