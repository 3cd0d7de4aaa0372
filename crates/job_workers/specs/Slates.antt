-- What stands behind the turns of a board.
use Rattle.std.specs.Prelude.{ℕ, List}
use Rattle.job_workers.specs.declared.events.Event.{Event}
use Rattle.job_workers.specs.declared.tasks.Task.{Task}
use Rattle.job_workers.specs.Events.{put_of}
use Rattle.job_workers.specs.Needs.{AreWindow, HoldFitting}
use Rattle.job_workers.specs.Machine.{IsRun}

-- the tasks of the window, the runner with whose home they fit, and the events
pub record SlateView (J H P R : Type 0) : Type 0 where
  pub tasks : List (Task J H)
  pub runner : R
  pub events : List (Event P H)

-- the events are a run of the machine over tasks that fit, and what was put fits too
pub record IsInOrder {J H P S : Type 0} (arity : J → ℕ) (JobFits : J → Type 0) (HeldFits : H → Type 0) (sense : H → S) (Belongs : J → List S → P → S → Type 0)
    (tasks : List (Task J H)) (events : List (Event P H)) : Type 0 where
  pub window : AreWindow arity JobFits HeldFits tasks
  pub run : IsRun tasks sense Belongs events
  pub held : HoldFitting HeldFits (put_of events)
