-- What the events of a board, the oldest first, say of its tasks.
use Rattle.std.specs.Prelude.{ℕ, ◌==◌, Bool, false, if◌then◌else◌, List, [], ◌∷◌, Option, Some, None, is_some}
use Rattle.std.specs.List.{list_any}
use Rattle.job_workers.specs.declared.events.Event.{Event}
use Rattle.job_workers.specs.declared.events.Event.TheVariants.{Take, Put}

module _ {P H : Type 0} where
  -- the event is a take of the task at the place
  abbrev pub takes : ℕ → Event P H → Bool
  takes place (Take n) = n == place
  takes place (Put n reply held) = false

  -- the event is a put of that task
  abbrev pub puts : ℕ → Event P H → Bool
  puts place (Take n) = false
  puts place (Put n reply held) = n == place

  -- the task was taken, and may be done since
  abbrev pub is_taken : ℕ → List (Event P H) → Bool
  is_taken place events = list_any (takes place) events

  -- the reply and the held value that were put for the task, those of the first put
  abbrev pub put_of : List (Event P H) → ℕ → Option (P × H)
  put_of [] place = None
  put_of (Take n ∷ events) place = put_of events place
  put_of (Put n reply held ∷ events) place = if n == place then Some (reply, held) else put_of events place

  -- the task is done
  abbrev pub is_done : ℕ → List (Event P H) → Bool
  is_done place events = is_some (put_of events place)
