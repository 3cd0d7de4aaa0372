-- How a board keeps its events, with a mark and a slot for each task.
use Rattle.std.specs.Prelude.{◌≡◌, ℕ, ◌+◌, Bool, false, List, length, slice_index_or, Option, None, is_some}
use Rattle.std.specs.List.{count_by}
use Rattle.job_workers.specs.declared.events.Event.{Event}
use Rattle.job_workers.specs.declared.events.Event.TheVariants.{Take, Put}
use Rattle.job_workers.specs.declared.records.Step.{Step}
use Rattle.job_workers.specs.declared.records.Step.TheVariants.{Took, Done}
use Rattle.job_workers.specs.Events.{is_taken, put_of}

module _ {P H : Type 0} where
  -- the event that a step stands for
  abbrev pub event_of : Step P H → Event P H
  event_of (Took place) = Take place
  event_of (Done place answer) = Put place answer.value.0 answer.value.1

  -- what stands in the slot of the task at the place
  abbrev pub slot_at : List (Option (P × H)) → ℕ → Option (P × H)
  slot_at slots place = slice_index_or slots place None

  -- the marks and the slots are what the events say, and there are no more events than two for each task
  pub record Agree (events : List (Event P H)) (taken : List Bool) (slots : List (Option (P × H))) : Type 0 where
    pub sized : length taken ≡ length slots
    pub takes : (place : ℕ) → is_taken place events ≡ slice_index_or taken place false
    pub puts : (place : ℕ) → put_of events place ≡ slot_at slots place
    pub counted : length events ≡ count_by (λ (b : Bool). b) taken + count_by is_some slots

-- what contracts see of the records of a board: how many tasks it has, and its events
pub record History (P H : Type 0) : Type 0 where
  pub tasks : ℕ
  pub events : List (Event P H)
