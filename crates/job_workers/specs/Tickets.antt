-- What a ticket stands for.
use Rattle.std.specs.Prelude.{◌≡◌, ℕ, true, List, length, map, Some, slice_get}
use Rattle.std.specs.List.{All}
use Rattle.job_workers.specs.declared.events.Event.{Event}
use Rattle.job_workers.specs.declared.tasks.Task.{Task}
use Rattle.job_workers.specs.declared.tickets.Ticket.{Ticket}
use Rattle.job_workers.specs.Events.{is_taken, put_of}
use Rattle.job_workers.specs.Needs.{AreGiven}

-- the place of the task that was taken, and the values given to its job
abbrev pub place_of : {H : Type 0} → Ticket H → ℕ
place_of ticket = ticket.place

abbrev pub given_to : {H : Type 0} → Ticket H → List H
given_to ticket = ticket.given.items

-- the ticket's job and its values fit, and there are as many as the job is given
pub record TicketFits {J H : Type 0} (arity : J → ℕ) (JobFits : J → Type 0) (HeldFits : H → Type 0) (tasks : List (Task J H)) (ticket : Ticket H) : Type 0 where
  pub task : Task J H
  pub there : slice_get tasks (place_of ticket) ≡ Some task
  pub job : JobFits task.job
  pub count : length (given_to ticket) ≡ arity task.job
  pub given : All HeldFits (given_to ticket)

module _ {J H P S : Type 0} (sense : H → S) (tasks : List (Task J H)) where
  -- the ticket's task was taken, and its values are those that the task is given
  pub record IsFor (events : List (Event P H)) (ticket : Ticket H) : Type 0 where
    pub taken : is_taken (place_of ticket) events ≡ true
    pub task : Task J H
    pub there : slice_get tasks (place_of ticket) ≡ Some task
    pub given : AreGiven sense (put_of events) task.needs.items (map sense (given_to ticket))

  -- the reply and the held value belong to the ticket's job and the values given
  abbrev pub Answers : (J → List S → P → S → Type 0) → Ticket H → P → H → Type 0
  Answers Belongs ticket reply held = (task : Task J H) → slice_get tasks (place_of ticket) ≡ Some task → Belongs task.job (map sense (given_to ticket)) reply (sense held)
