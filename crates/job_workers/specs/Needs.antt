-- What a task is given, and which answers belong to it.
use Rattle.std.specs.Prelude.{◌≡◌, ℕ, ◌<◌, ◌&&◌, Bool, true, List, length, map, slice_get, slice_index_or, Option, Some, None}
use Rattle.std.specs.Option.{option_map}
use Rattle.std.specs.List.{All, list_all}
use Rattle.job_workers.specs.declared.tasks.Need.{Need}
use Rattle.job_workers.specs.declared.tasks.Need.TheVariants.{Value, Task as OfTask}
use Rattle.job_workers.specs.declared.tasks.Task.{Task}

-- the task that a task follows is done, where it follows one
abbrev pub follows : (ℕ → Bool) → Option ℕ → Bool
follows done None = true
follows done (Some place) = done place

module _ {H : Type 0} where
  -- a need by value is met, and a need by task is where that task is done
  abbrev pub is_met : (ℕ → Bool) → Need H → Bool
  is_met done (Value held) = true
  is_met done (OfTask place) = done place

  -- all needs of a task are met, and the task that it follows is done
  abbrev pub may_begin : {J : Type 0} → (ℕ → Bool) → Task J H → Bool
  may_begin done task = list_all (is_met done) task.needs.items && follows done task.after

  -- the task at this place needs earlier tasks alone
  abbrev pub IsBefore : ℕ → Need H → Type 0
  IsBefore place (Value held) = Unit {0}
  IsBefore place (OfTask earlier) = earlier < place

  -- a value among the needs
  abbrev pub OnValue : (H → Type 0) → Need H → Type 0
  OnValue Fits (Value held) = Fits held
  OnValue Fits (OfTask place) = Unit {0}

-- what the needs mean, where `sense` is the meaning of a held value and `done` gives the answer of each task that is done
module _ {H P S : Type 0} (sense : H → S) (done : ℕ → Option (P × H)) where
  abbrev pub meaning_of : Need H → Option S
  meaning_of (Value held) = Some (sense held)
  meaning_of (OfTask place) = option_map (λ answer. sense answer.1) (done place)

  -- the values given to a job are those of its needs, in their order
  abbrev pub AreGiven : List (Need H) → List S → Type 0
  AreGiven needs given = map meaning_of needs ≡ map Some given

  -- the reply and the held value belong to the task's job and the values given
  pub record IsAnswer {J : Type 0} (Belongs : J → List S → P → S → Type 0) (task : Task J H) (reply : P) (held : H) : Type 0 where
    pub given : List S
    pub are_given : AreGiven task.needs.items given
    pub belongs : Belongs task.job given reply (sense held)

-- the two values are an answer of the task at the place
pub record IsAnswerAt {J H P S : Type 0} (sense : H → S) (Belongs : J → List S → P → S → Type 0) (tasks : List (Task J H)) (done : ℕ → Option (P × H)) (place : ℕ) (reply : P) (held : H) : Type 0 where
  pub task : Task J H
  pub there : slice_get tasks place ≡ Some task
  pub answer : IsAnswer sense done Belongs task reply held

-- what there is for a task is an answer of it
abbrev pub AreAnswers : {J H P S : Type 0} → (H → S) → (J → List S → P → S → Type 0) → List (Task J H) → (ℕ → Option (P × H)) → Type 0
AreAnswers sense Belongs tasks done = (place : ℕ) (reply : _) (held : _) → done place ≡ Some (reply, held) → IsAnswerAt sense Belongs tasks done place reply held

-- the held values of the answers fit
abbrev pub HoldFitting : {P H : Type 0} → (H → Type 0) → (ℕ → Option (P × H)) → Type 0
HoldFitting {P} {H} HeldFits done = (place : ℕ) (answer : P × H) → done place ≡ Some answer → HeldFits answer.1

-- what is asked of each task of a window: it needs earlier tasks alone, as many values as its job is given, and its job and its values fit
pub record Fits {J H : Type 0} (arity : J → ℕ) (JobFits : J → Type 0) (HeldFits : H → Type 0) (place : ℕ) (task : Task J H) : Type 0 where
  pub earlier : All (IsBefore place) task.needs.items
  pub count : length task.needs.items ≡ arity task.job
  pub job : JobFits task.job
  pub values : All (OnValue HeldFits) task.needs.items

abbrev pub AreWindow : {J H : Type 0} → (J → ℕ) → (J → Type 0) → (H → Type 0) → List (Task J H) → Type 0
AreWindow arity JobFits HeldFits tasks = (place : ℕ) (d : Task _ _) → place < length tasks → Fits arity JobFits HeldFits place (slice_index_or tasks place d)
