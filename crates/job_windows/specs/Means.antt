-- What the store of a session and its window stand for.
--     IsStore      the store stands behind jobs
--     IsGathered      the window has the jobs of these lines after them
--     IsPending      these answers are due for the jobs of these lines
-- A desk is given, whose passes and proofs are those of the store.
use Rattle.std.specs.Prelude.{◌≡◌, ℕ, ◌+◌, ◌<◌, ◌≤◌, List, length, map, Option, vec_capacity}
use Rattle.std.specs.List.{All}
use Rattle.cut_elim.specs.declared.desk.Desk.{Desk}
use Rattle.cut_elim.specs.Desks.{IsDeskPassOf}
use Rattle.job_lang.specs.declared.jobs.Op.{Op}
use Rattle.job_lang.specs.FormedOps.{IsFormedOp}
use Rattle.job_workers.specs.declared.tasks.Task.{Task}
use Rattle.job_workers.specs.Needs.{AreWindow}
use Rattle.operation_laws.specs.Given.{names_in}
use Rattle.held_values.specs.declared.held.Held.{Held}
use Rattle.held_values.specs.Means.{sense}
use Rattle.reply_lines.specs.declared.replies.Outcome.{Outcome}
use Rattle.session_laws.specs.Answers.{Past}
use Rattle.job_windows.specs.Names.{Knows}
use Rattle.job_windows.specs.Running.{FitsDesk}
use Rattle.job_windows.specs.Windows.{AreInOrder, AreDue, AreAnswered, IsPromised}
use Rattle.job_windows.specs.declared.store.Store.{Store}
use Rattle.job_windows.specs.declared.seats.Seat.{Seat}
use Rattle.job_windows.specs.declared.seats.Window.{Window}
use Rattle.job_windows.specs.declared.seats.Due.{Due}

-- the pass of a store is of the desk
abbrev pub HasPass : Desk → Store → Type 0
HasPass desk store = IsDeskPassOf desk store.pass

-- the store keeps what so many jobs hold, and all of it may be given to the operations of the desk
pub record Holds (desk : Desk) (store : Store) (earlier : List Past) : Type 0 where
  pub pass : HasPass desk store
  pub sized : length store.held.items ≡ length earlier
  pub fits : All (FitsDesk desk) store.held.items

-- the store stands behind these jobs
pub record IsStore (desk : Desk) (store : Store) (earlier : List Past) : Type 0 where
  pub holds : Holds desk store earlier
  pub known : Knows store.names (map sense store.held.items) earlier

-- the tasks may be run by the desk as a window
abbrev pub AreTasks : Desk → List (Task Op Held) → Type 0
AreTasks desk tasks = AreWindow (λ op. length (names_in op)) IsFormedOp (FitsDesk desk) tasks

-- so may one more, which names jobs of the store or of the seats
pub record AreRunnable (desk : Desk) (held : List Held) (seats : List Seat) (tasks : List (Task Op Held)) : Type 0 where
  pub fits : All (FitsDesk desk) held
  pub ordered : AreInOrder 0 seats (length tasks)
  pub tasks_are : AreTasks desk tasks

-- The window has the jobs of these lines, which come after earlier ones. Its tasks may be run by the desk, and whatever belongs to them,
-- each job is answered by it.
pub record IsGathered (desk : Desk) (store : Store) (window : Window) (earlier : List Past) (lines : List (List ℕ)) : Type 0 where
  pub holds : Holds desk store earlier
  pub runnable : AreTasks desk window.tasks.items
  pub ordered : AreInOrder 0 window.seats.items (length window.tasks.items)
  pub counted : length window.seats.items ≡ length lines
  pub promised : (done : ℕ → Option (Outcome × Held)) → AreAnswered done window.tasks.items → IsPromised done store.names store.held.items earlier lines window.seats.items

-- These answers are due for the jobs of these lines, which come after earlier ones, and there is room in the store for what the jobs hold.
pub record IsPending (desk : Desk) (store : Store) (earlier : List Past) (lines : List (List ℕ)) (dues : List Due) : Type 0 where
  pub holds : Holds desk store earlier
  pub fits : All (λ due. FitsDesk desk due.held) dues
  pub room : 0 < length dues → length store.held.items + length dues ≤ vec_capacity store.held
  pub due : AreDue store.names (map sense store.held.items) earlier lines dues
