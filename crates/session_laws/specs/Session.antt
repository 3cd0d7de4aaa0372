-- The replies of a session, as a relation between its lines and its bytes: no reader, no window and no worker is in it.
--     out, all_ok      the reply lines of jobs, and whether none is an error
--     flags_of, memory_flags      which jobs lacked memory, and which the bytes of their replies tell of
--     Replies, RepliesInPart      bytes are the replies to all jobs of lines, or to the first of them
use Rattle.std.specs.Prelude.{◌≡◌, ℕ, ◌<◌, ◌&&◌, Bool, true, List, [], ◌∷◌, ◌++◌, length, map}
use Rattle.edge_io.specs.Lines.{whole_lines}
use Rattle.reply_lines.specs.OneLine.{reports_want}
use Rattle.session_laws.specs.Jobs.{jobs}
use Rattle.session_laws.specs.Answers.{Past, lacked, in_order, AreAllowed}
use Rattle.session_laws.specs.Claimed.{AreClaimed}
use Rattle.session_laws.specs.Replying.{reply_line, is_ok_reply}

-- the reply lines of these jobs, in order
abbrev pub out : List Past → List ℕ
out [] = []
out (job ∷ earlier) = out earlier ++ reply_line earlier job

-- no reply is an error
abbrev pub all_ok : List Past → Bool
all_ok [] = true
all_ok (job ∷ earlier) = all_ok earlier && is_ok_reply job

-- whether each of these jobs lacked memory, in the order in which they came
abbrev pub flags_of : List Past → List Bool
flags_of [] = []
flags_of (job ∷ earlier) = flags_of earlier ++ lacked job ∷ []

-- which of the reply lines among these bytes report want of memory
abbrev pub memory_flags : List ℕ → List Bool
memory_flags written = map reports_want (whole_lines written)

-- The bytes are the replies to all jobs of these lines, in order, and nothing else; each job came to what its line may come to, and what it
-- made is what its operation claims.
pub record Replies (lines : List (List ℕ)) (written : List ℕ) : Type 0 where
  pub done : List Past
  pub allowed : AreAllowed done
  pub claimed : AreClaimed done
  pub each : in_order done ≡ jobs lines
  pub bytes : written ≡ out done

-- the bytes are the beginning of the next job's reply line, and not the whole of it
pub record IsPartOfReply (earlier : List Past) (line part : List ℕ) : Type 0 where
  pub job : Past
  pub line_is : job.line ≡ line
  pub allowed : AreAllowed (job ∷ earlier)
  pub more : List ℕ
  pub goes_on : 0 < length more
  pub bytes : part ++ more ≡ reply_line earlier job

-- the same for the first of the jobs that wait; where none waits there are no bytes
abbrev pub IsPartOfNext : List Past → List (List ℕ) → List ℕ → Type 0
IsPartOfNext earlier [] part = part ≡ []
IsPartOfNext earlier (line ∷ lines) part = IsPartOfReply earlier line part

-- The bytes are the replies to the first jobs of these lines, in order, and then perhaps a part of the next one's.
pub record RepliesInPart (lines : List (List ℕ)) (written : List ℕ) : Type 0 where
  pub done : List Past
  pub waiting : List (List ℕ)
  pub part : List ℕ
  pub allowed : AreAllowed done
  pub claimed : AreClaimed done
  pub each : in_order done ++ waiting ≡ jobs lines
  pub bytes : written ≡ out done ++ part
  pub next : IsPartOfNext done waiting part
