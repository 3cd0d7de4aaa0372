-- The machine of a board. Each task waits, is taken or is done, as the events say. A worker takes the first waiting task all of whose needs
-- are done, and puts a reply and a held value that belong to it.
use Rattle.std.specs.Prelude.{◌≡◌, ℕ, ◌<◌, true, false, List, [], ◌∷◌, ◌++◌, Some, slice_get}
use Rattle.std.specs.List.{list_all}
use Rattle.job_workers.specs.declared.events.Event.{Event}
use Rattle.job_workers.specs.declared.events.Event.TheVariants.{Take, Put}
use Rattle.job_workers.specs.declared.tasks.Task.{Task}
use Rattle.job_workers.specs.Events.{is_taken, is_done, put_of}
use Rattle.job_workers.specs.Needs.{is_met, follows, IsAnswerAt, AreAnswers}

module _ {J H P : Type 0} (tasks : List (Task J H)) where
  -- all needs of the task are done, and so is the task that it follows
  pub record IsMet (events : List (Event P H)) (place : ℕ) : Type 0 where
    pub task : Task J H
    pub there : slice_get tasks place ≡ Some task
    pub met : list_all (is_met (λ n. is_done n events)) task.needs.items ≡ true
    pub followed : follows (λ n. is_done n events) task.after ≡ true

  -- the task waits, and may begin
  abbrev pub IsReady : List (Event P H) → ℕ → Type 0
  IsReady events place = (is_taken place events ≡ false) × IsMet events place

  -- no earlier task is ready
  abbrev pub IsFirstReady : List (Event P H) → ℕ → Type 0
  IsFirstReady events place = IsReady events place × ((k : ℕ) → k < place → ¬ IsReady events k)

  -- no task is ready
  abbrev pub IsIdle : List (Event P H) → Type 0
  IsIdle events = (k : ℕ) → ¬ IsReady events k

  module _ {S : Type 0} (sense : H → S) (Belongs : J → List S → P → S → Type 0) where
    -- the event may follow the others
    abbrev pub IsAllowed : List (Event P H) → Event P H → Type 0
    IsAllowed events (Take place) = IsFirstReady events place
    IsAllowed events (Put place reply held) = (is_taken place events ≡ true) × (is_done place events ≡ false) × IsAnswerAt sense Belongs tasks (put_of events) place reply held

    -- each of the later events may follow those before it
    abbrev pub Runs : List (Event P H) → List (Event P H) → Type 0
    Runs before [] = Unit {0}
    Runs before (e ∷ events) = IsAllowed before e × Runs (before ++ e ∷ []) events

    -- a run of the machine, from no event
    abbrev pub IsRun : List (Event P H) → Type 0
    IsRun events = Runs [] events

    -- the needs of each task that is taken or done are done, and what was put for a task belongs to it
    pub record IsGood (events : List (Event P H)) : Type 0 where
      pub taken : (place : ℕ) → is_taken place events ≡ true → IsMet events place
      pub done : (place : ℕ) → is_done place events ≡ true → is_taken place events ≡ true
      pub answers : AreAnswers sense Belongs tasks (put_of events)
