-- What the sessions of a bundle come to.
--     Comes      how a session over some lines may end whose bytes are in memory
--     IsServed      so the session of a part ended
use Rattle.std.specs.Prelude.{◌≡◌, ℕ, ◌≤◌, ◌⊎◌, List, [], length, if◌then◌else◌}
use Rattle.edge_io.specs.Lines.{lines_of}
use Rattle.job_workers.specs.declared.tasks.Task.{Task}
use Rattle.sessions.specs.declared.parts.Part.{Part}
use Rattle.session_laws.specs.Jobs.{max_input}
use Rattle.session_laws.specs.Session.{Replies, RepliesInPart, all_ok}
use Rattle.proof_server.specs.declared.parts.Done.{Done}

-- with status 0 or 1 the bytes are the replies to all jobs of these lines, with 0 where none is an error; with status 5 they are the
-- beginning of these
abbrev pub Comes : List (List ℕ) → ℕ → List ℕ → Type 0
Comes lines status written = ((r : Replies lines written) × (status ≡ (if all_ok r.done then 0 else 1)))
    ⊎ ((status ≡ 5) × RepliesInPart lines written)

-- this came of the part: its own session, over its lines alone
pub record IsServed (part : Part) (done : Done) : Type 0 where
  pub session : done.session ≡ part.session
  pub comes : Comes (lines_of part.bytes.items) done.status done.bytes.items

-- a session may read all of the part
abbrev pub IsShort : Part → Type 0
IsShort part = length part.bytes.items ≤ max_input

-- the part of a task, and that the task is given nothing
abbrev pub job_of : Task Part (Unit {0}) → Part
job_of task = task.job

abbrev pub has_no_needs : Task Part (Unit {0}) → Type 0
has_no_needs task = task.needs.items ≡ []
