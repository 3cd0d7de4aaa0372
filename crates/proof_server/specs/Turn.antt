-- What a session does with one line, and with a window.
--     IsAt      what the session has been handed, and what it has written
--     AreInPart      bytes are the replies to the first of some jobs, and perhaps a part of the next one
--     Goes      the session goes on, or stops
-- A desk is given, which the session works on.
use Rattle.std.specs.Prelude.{◌≡◌, ℕ, Bool, false, ◌||◌, List, [], ◌∷◌, ◌++◌, length, Option, Result, Ok, Err}
use Rattle.std.specs.Io.KnownBytes.{Appends}
use Rattle.edge_io.specs.Causes.{Rose}
use Rattle.cut_elim.specs.declared.desk.Desk.{Desk}
use Rattle.session_laws.specs.Answers.{Past, lacked, in_order, AreAllowed}
use Rattle.session_laws.specs.Session.{out, all_ok, IsPartOfNext}
use Rattle.job_windows.specs.Means.{IsGathered, IsPending}
use Rattle.job_windows.specs.declared.seats.Due.{Due}
use Rattle.proof_server.specs.Counting.{counts_of}
use Rattle.proof_server.specs.declared.session.Session.{Session}
use Rattle.proof_server.specs.declared.session.Stop.{Stop}
use Rattle.proof_server.specs.declared.session.Stop.TheVariants.{WriteFault, Memory}
use Rattle.proof_server.specs.declared.ending.Ended.{Ended}
use Rattle.proof_server.specs.declared.ending.Ended.TheVariants as ended

-- how many jobs the window of a session has
abbrev pub seats_in : Session → ℕ
seats_in session = length session.window.seats.items

-- some of these jobs lacked memory
abbrev pub any_lacked : List Past → Bool
any_lacked [] = false
any_lacked (job ∷ earlier) = any_lacked earlier || lacked job

-- the session has answered these jobs, and counted their replies
pub record HasAnswered (session : Session) (done : List Past) : Type 0 where
  pub allowed : AreAllowed done
  pub number : session.count ≡ length done
  pub counts : session.counts ≡ counts_of done
  pub good_is : session.good ≡ all_ok done
  pub lacked_is : session.lacked ≡ any_lacked done

-- The session has been handed these jobs. The first of them are answered, by these bytes, and the others are gathered in the window.
pub record IsAt (desk : Desk) (session : Session) (asked : List (List ℕ)) (written : List ℕ) : Type 0 where
  pub done : List Past
  pub waiting : List (List ℕ)
  pub each : in_order done ++ waiting ≡ asked
  pub bytes : written ≡ out done
  pub answered : HasAnswered session done
  pub gathered : IsGathered desk session.store session.window done waiting

-- The first of these jobs are answered, by these bytes, and these answers are due for the others, whose window was run.
pub record IsWriting (desk : Desk) (session : Session) (asked : List (List ℕ)) (written : List ℕ) (dues : List Due) : Type 0 where
  pub done : List Past
  pub waiting : List (List ℕ)
  pub each : in_order done ++ waiting ≡ asked
  pub bytes : written ≡ out done
  pub answered : HasAnswered session done
  pub pending : IsPending desk session.store done waiting dues

-- the bytes are the replies to the first of these jobs, and then perhaps a part of the next one's
pub record AreInPart (asked : List (List ℕ)) (written : List ℕ) : Type 0 where
  pub done : List Past
  pub waiting : List (List ℕ)
  pub part : List ℕ
  pub each : in_order done ++ waiting ≡ asked
  pub allowed : AreAllowed done
  pub bytes : written ≡ out done ++ part
  pub next : IsPartOfNext done waiting part

-- more was written to the sink, behind these bytes
pub record WritesMore (P : List ℕ → Type 0) (written : List ℕ) (old new : Option (List ℕ)) : Type 0 where
  pub more : List ℕ
  pub to : Appends old new more
  pub holds : P (written ++ more)

-- the session was handed these jobs, with what was written so far
abbrev pub Goes : Desk → Result (Unit {0}) Stop → Session → List (List ℕ) → List ℕ → ℕ → ℕ → Option (List ℕ) → Option (List ℕ) → Type 0
Goes desk (Ok _) after asked written k k' old new = WritesMore (IsAt desk after asked) written old new
Goes desk (Err WriteFault) after asked written k k' old new = Rose k k' × WritesMore (AreInPart asked) written old new
Goes desk (Err Memory) after asked written k k' old new = WritesMore (AreInPart asked) written old new

-- the same where answers are still due
abbrev pub Writes : Desk → Result (Unit {0}) Stop → Session → List (List ℕ) → List ℕ → List Due → ℕ → ℕ → Option (List ℕ) → Option (List ℕ) → Type 0
Writes desk (Ok _) after asked written dues k k' old new = WritesMore (λ bytes. IsWriting desk after asked bytes dues) written old new
Writes desk (Err WriteFault) after asked written dues k k' old new = Rose k k' × WritesMore (AreInPart asked) written old new
Writes desk (Err Memory) after asked written dues k k' old new = WritesMore (AreInPart asked) written old new

-- how a session ends that can't go on
abbrev pub ended_of : Stop → Ended
ended_of WriteFault = ended.WriteFault
ended_of Memory = ended.Memory
