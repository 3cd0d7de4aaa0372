-- How a run of the sessions of a bundle ends, by cases.
--     switch_line      the line that the replies of a session stand behind
--     AreReplies      the replies of all sessions
--     EndsSessions      how the run ended
use Rattle.std.specs.Prelude.{◌≡◌, ℕ, ◌≤◌, ◌⊎◌, ◌&&◌, Bool, true, List, [], ◌∷◌, ◌++◌, length, take, codes, decimal, Option, Some, None, Result, Ok, Err, if◌then◌else◌}
use Rattle.std.specs.Io.KnownBytes.{Consumes, Appends, IsAtEnd}
use Rattle.edge_io.specs.Causes.{Rose}
use Rattle.edge_io.specs.Lines.{lines_of}
use Rattle.sessions.specs.Parts.{Section}
use Rattle.sessions.specs.Bundles.{bundle, first_faulty}
use Rattle.sessions.specs.Reading.{HasFaulty, IsCutOff, IsFull, IsPartTaken, max_bytes}
use Rattle.session_laws.specs.Session.{Replies, all_ok}
use Rattle.proof_server.specs.declared.bundles.EndedSessions.{EndedSessions}
use Rattle.proof_server.specs.declared.bundles.EndedSessions.TheVariants.{Done, Switch, ReadFault, InputFull, WriteFault, Memory}
use Rattle.proof_server.specs.declared.session.Stop.{Stop}
use Rattle.proof_server.specs.declared.session.Stop.TheVariants as stop

-- the line `@` with the number of a session
abbrev pub switch_line : ℕ → List ℕ
switch_line session = codes "@" ++ (decimal session ++ 10 ∷ [])

-- for each part in order its switch and the replies to its lines, by a session of its own; `good` tells whether none of them is an error
abbrev pub AreReplies : List Section → Bool → List ℕ → Type 0
AreReplies [] good written = (good ≡ true) × (written ≡ [])
AreReplies (part ∷ parts) good written = (replies rest : List ℕ) × (others : Bool) × (r : Replies (lines_of part.bytes) replies)
    × (good ≡ (all_ok r.done && others)) × (written ≡ switch_line part.session ++ (replies ++ rest)) × AreReplies parts others rest

-- the beginning of what is written for the first parts
pub record AreBegun (parts : List Section) (written : List ℕ) : Type 0 where
  pub first : ℕ
  pub good : Bool
  pub all : List ℕ
  pub replies : AreReplies (take first parts) good all
  pub front : (n : ℕ) × (written ≡ take n all)

-- what was written of the replies of these sessions: all, or the beginning of them; the sink's count of faults went from k to k'
abbrev pub WritesSessions : Result Bool Stop → List Section → ℕ → ℕ → Option (List ℕ) → Option (List ℕ) → Type 0
WritesSessions (Ok good) parts k k' old new = (written : List ℕ) × Appends old new written × AreReplies parts good written
WritesSessions (Err stop.WriteFault) parts k k' old new = Rose k k' × ((written : List ℕ) × Appends old new written × AreBegun parts written)
WritesSessions (Err stop.Memory) parts k k' old new = (written : List ℕ) × Appends old new written × AreBegun parts written

-- the input was read to its end, and no line of it is a faulty switch
pub record IsRead (input : List ℕ) (before after : Option (List ℕ)) : Type 0 where
  pub from : Consumes before after input
  pub at_end : IsAtEnd after
  pub within : length input ≤ max_bytes
  pub right : first_faulty (lines_of input) ≡ None

-- all replies were written and flushed
pub record AreDone (good : Bool) (before after old new flushed : Option (List ℕ)) : Type 0 where
  pub input : List ℕ
  pub read : IsRead input before after
  pub written : List ℕ
  pub to : Appends old new written
  pub replies : AreReplies (bundle input) good written
  pub all_flushed : flushed ≡ new

-- the beginning of the replies was written
pub record ArePartWritten (before after old new : Option (List ℕ)) : Type 0 where
  pub input : List ℕ
  pub read : IsRead input before after
  pub written : List ℕ
  pub to : Appends old new written
  pub begun : AreBegun (bundle input) written

-- how the run ended: the source's count of faults went from f to f', the sink's from k to k'
abbrev pub EndsSessions : EndedSessions → ℕ → ℕ → ℕ → ℕ → Option (List ℕ) → Option (List ℕ) → Option (List ℕ) → Option (List ℕ) → Option (List ℕ) → Type 0
EndsSessions (Done good) f f' k k' before after old new flushed = AreDone good before after old new flushed
EndsSessions (Switch number) f f' k k' before after old new flushed = HasFaulty number before after × (new ≡ old)
EndsSessions ReadFault f f' k k' before after old new flushed = Rose f f' × IsCutOff before after × (new ≡ old)
EndsSessions InputFull f f' k k' before after old new flushed = IsFull before after × (new ≡ old)
EndsSessions WriteFault f f' k k' before after old new flushed = Rose k k' × ArePartWritten before after old new
EndsSessions Memory f f' k k' before after old new flushed = (IsPartTaken before after × (new ≡ old)) ⊎ ArePartWritten before after old new

-- where no call failed and the input that was told isn't too long, all was answered, or a line is a faulty switch, or memory ran out
abbrev pub AreComplete : ℕ → ℕ → ℕ → ℕ → ℕ → Option (List ℕ) → Type 0
AreComplete status f f' k k' before = (input : List ℕ) → before ≡ Some input → length input ≤ max_bytes
    → ¬ Rose f f' → ¬ Rose k k' → (status ≡ 0) ⊎ (status ≡ 1) ⊎ (status ≡ 5) ⊎ (status ≡ 7)

-- the status that the run ends with
abbrev pub status_of_sessions : EndedSessions → ℕ
status_of_sessions (Done good) = if good then 0 else 1
status_of_sessions (Switch number) = 7
status_of_sessions ReadFault = 3
status_of_sessions InputFull = 6
status_of_sessions WriteFault = 4
status_of_sessions Memory = 5
