-- How a session ends, by cases.
use Rattle.std.specs.Prelude.{◌≡◌, ℕ, ◌+◌, ◌≤◌, ◌⊎◌, Bool, List, [], ◌∷◌, ◌++◌, length, Option, if◌then◌else◌}
use Rattle.std.specs.Io.KnownBytes.{Consumes, Appends, IsAtEnd}
use Rattle.edge_io.specs.Causes.{Rose}
use Rattle.edge_io.specs.Lines.{lines_of, whole_lines}
use Rattle.session_laws.specs.Session.{Replies, RepliesInPart, all_ok}
use Rattle.proof_server.specs.declared.ending.Ended.{Ended}
use Rattle.proof_server.specs.declared.ending.Ended.TheVariants.{Done, ReadFault, WriteFault, Memory, InputFull}

-- these bytes were taken from the source, and these written to the sink
pub record Carries (taken written : List ℕ) (before after old new : Option (List ℕ)) : Type 0 where
  pub from : Consumes before after taken
  pub to : Appends old new written

-- the input was read to its end, and the replies to all its jobs were written and flushed
pub record IsDone (good : Bool) (limit : ℕ) (before after old new flushed : Option (List ℕ)) : Type 0 where
  pub input : List ℕ
  pub written : List ℕ
  pub moved : Carries input written before after old new
  pub at_end : IsAtEnd after
  pub within : length input ≤ limit
  pub replies : Replies (lines_of input) written
  pub good_is : good ≡ all_ok replies.done
  pub all_flushed : flushed ≡ new

-- reading failed: the replies to the whole lines that had been read were written and flushed
pub record IsCutOff (limit : ℕ) (before after old new flushed : Option (List ℕ)) : Type 0 where
  pub taken : List ℕ
  pub written : List ℕ
  pub moved : Carries taken written before after old new
  pub within : length taken ≤ limit
  pub replies : Replies (whole_lines taken) written
  pub all_flushed : flushed ≡ new

-- all that may be read was taken and a further byte came: the replies to the whole lines before it were written and flushed
pub record IsFull (limit : ℕ) (before after old new flushed : Option (List ℕ)) : Type 0 where
  pub input : List ℕ
  pub byte : ℕ
  pub written : List ℕ
  pub moved : Carries (input ++ byte ∷ []) written before after old new
  pub exact : length input ≡ limit
  pub replies : Replies (whole_lines input) written
  pub all_flushed : flushed ≡ new

-- what was written is the beginning of the replies to the lines that were read
pub record IsPartWritten (limit : ℕ) (before after old new : Option (List ℕ)) : Type 0 where
  pub taken : List ℕ
  pub written : List ℕ
  pub moved : Carries taken written before after old new
  pub within : length taken ≤ limit + 1
  pub replies : RepliesInPart (whole_lines taken) written ⊎ (IsAtEnd after × RepliesInPart (lines_of taken) written)

-- how a session ended that may read `limit` bytes: the source's count of faults went from f to f', the sink's from k to k'
abbrev pub Ends : Ended → ℕ → ℕ → ℕ → ℕ → ℕ → Option (List ℕ) → Option (List ℕ) → Option (List ℕ) → Option (List ℕ) → Option (List ℕ) → Type 0
Ends (Done good) limit f f' k k' before after old new flushed = IsDone good limit before after old new flushed
Ends ReadFault limit f f' k k' before after old new flushed = Rose f f' × IsCutOff limit before after old new flushed
Ends WriteFault limit f f' k k' before after old new flushed = Rose k k' × IsPartWritten limit before after old new
Ends Memory limit f f' k k' before after old new flushed = IsPartWritten limit before after old new
Ends InputFull limit f f' k k' before after old new flushed = IsFull limit before after old new flushed

-- the status that a session ends with
abbrev pub status_of : Ended → ℕ
status_of (Done good) = if good then 0 else 1
status_of ReadFault = 3
status_of WriteFault = 4
status_of Memory = 5
status_of InputFull = 6
