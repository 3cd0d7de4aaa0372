-- What contracts see of a board and its passes.
use Rattle.std.specs.Prelude.{◌≡◌, ℕ, false, List, [], ◌∷◌, ◌++◌, Option, MatchBool}
use mathlib.Core.List.{IsPrefix}
use Rattle.turn_log.specs.declared.log.TurnLog.{TurnLog}
use Rattle.turn_log.specs.declared.log.PassOf.{PassOf}
use Rattle.turn_log.specs.Logs.{opening}
use Rattle.turn_log.specs.Passes.{IsOf, is_out, seen}
use Rattle.job_workers.specs.declared.boards.BoardOf.{BoardOf}
use Rattle.job_workers.specs.declared.events.Event.{Event}
use Rattle.job_workers.specs.declared.events.Event.TheVariants.{Take, Put}
use Rattle.job_workers.specs.declared.tasks.Task.{Task}
use Rattle.job_workers.specs.Events.{is_done, put_of}
use Rattle.job_workers.specs.Machine.{IsFirstReady, IsRun}
use Rattle.job_workers.specs.Slates.{SlateView}

-- the tasks of a board, in the order in which they were handed to it
abbrev pub tasks_of : {J H L : Type 0} → BoardOf J H L → List (Task J H)
tasks_of board = board.tasks.items

module _ {J H P R : Type 0} where
  -- a runner with the board's home
  abbrev pub runner_of : BoardOf J H (TurnLog (SlateView J H P R) (Event P H)) → R
  runner_of board = (opening board.log).runner

  -- the pass is of the board, and what it has seen is a run of the machine
  pub record IsPassOf {S : Type 0} (sense : H → S) (Belongs : J → List S → P → S → Type 0) (board : BoardOf J H (TurnLog (SlateView J H P R) (Event P H)))
      (pass : PassOf (SlateView J H P R) (Event P H)) : Type 0 where
    pub of : IsOf board.log pass
    pub rest : is_out pass ≡ false
    pub tasks : (opening board.log).tasks ≡ tasks_of board
    pub run : IsRun (tasks_of board) sense Belongs (seen pass)

module _ {P H : Type 0} (old new : List (Event P H)) where
  -- at a turn at which the events went on from the old ones, the first ready task was taken
  pub record TakesFirst {J : Type 0} (tasks : List (Task J H)) (place : ℕ) : Type 0 where
    pub before : List (Event P H)
    pub grown : IsPrefix old before
    pub first : IsFirstReady tasks before place
    pub taken : new ≡ before ++ Take place ∷ []

  -- at a turn at which the events went on from the old ones, the two values were put for the task, unless it was done
  pub record PutsOnce (place : ℕ) (reply : P) (held : H) : Type 0 where
    pub before : List (Event P H)
    pub grown : IsPrefix old before
    pub put : MatchBool (is_done place before) (new ≡ before) (new ≡ before ++ Put place reply held ∷ [])

-- at a last turn, at which the events went on from the old ones, this was put for the tasks
pub record EndsWith {J H P S : Type 0} (sense : H → S) (Belongs : J → List S → P → S → Type 0) (tasks : List (Task J H)) (old : List (Event P H)) (done : ℕ → Option (P × H)) : Type 0 where
  pub events : List (Event P H)
  pub grown : IsPrefix old events
  pub run : IsRun tasks sense Belongs events
  pub puts : done ≡ put_of events
