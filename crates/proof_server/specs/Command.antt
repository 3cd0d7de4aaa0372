-- What a run of the command answers, and what it notes.
use Rattle.std.specs.Prelude.{◌≡◌, ℕ, ◌≤◌, ◌<◌, ◌⊎◌, Bool, false, List, [], ◌∷◌, ◌++◌, length, take, codes, decimal, Option, Some, None, zero, suc, if◌then◌else◌}
use Rattle.command_words.specs.declared.reading.Settings.{Settings}
use Rattle.command_words.specs.Words.{settings_of}
use Rattle.std.specs.Io.KnownBytes.{Appends}
use Rattle.edge_io.specs.Causes.{Rose}
use Rattle.session_laws.specs.Jobs.{max_input}
use Rattle.proof_server.specs.Ending.{Ends, status_of}
use Rattle.proof_server.specs.Bundles.{status_of_sessions}
use Rattle.proof_server.specs.declared.ending.Ended.{Ended}
use Rattle.proof_server.specs.declared.bundles.EndedSessions.{EndedSessions}
use Rattle.proof_server.specs.declared.bundles.EndedSessions.TheVariants as bundle
use Rattle.proof_server.specs.declared.command.EndedCommand.{EndedCommand}
use Rattle.proof_server.specs.declared.command.EndedCommand.TheVariants.{Refused, Session, Sessions}

-- how many workers the words ask for, where they ask for a session
abbrev pub workers_for : Option Settings → Option ℕ
workers_for None = None
workers_for (Some s) = if s.sessions then None else elim s.generate [ None ↦ Some s.workers | Some n ↦ None ]

abbrev pub workers_asked : List (List ℕ) → Option ℕ
workers_asked words = workers_for (settings_of words)

-- whether the words ask for the sessions of a bundle
abbrev pub asks_for_bundle : Option Settings → Bool
asks_for_bundle None = false
asks_for_bundle (Some s) = s.sessions

abbrev pub bundle_asked : List (List ℕ) → Bool
bundle_asked words = asks_for_bundle (settings_of words)

-- how many generated jobs the words ask for, where they ask for these in place of a session
abbrev pub jobs_for : Option Settings → Option ℕ
jobs_for None = None
jobs_for (Some s) = s.generate

abbrev pub jobs_asked : List (List ℕ) → Option ℕ
jobs_asked words = jobs_for (settings_of words)

-- a session was run, and the answer is the status of its end
abbrev pub Serves : ℕ → ℕ → ℕ → ℕ → ℕ → Option (List ℕ) → Option (List ℕ) → Option (List ℕ) → Option (List ℕ) → Option (List ℕ) → Type 0
Serves status f f' k k' before after old new flushed = (ended : Ended) × (status ≡ status_of ended)
    × Ends ended max_input f f' k k' before after old new flushed

-- where no call failed and the input that was told isn't too long, the session was whole, or memory ran out
abbrev pub IsComplete : ℕ → ℕ → ℕ → ℕ → ℕ → Option (List ℕ) → Type 0
IsComplete status f f' k k' before = (input : List ℕ) → before ≡ Some input → length input ≤ max_input
    → ¬ Rose f f' → ¬ Rose k k' → (status ≡ 0) ⊎ (status ≡ 1) ⊎ (status ≡ 5)

-- the line that is noted for a status; none for a session that was whole
abbrev pub note_of : ℕ → List ℕ
note_of (suc (suc zero)) = codes "gaptd: usage: gaptd [--workers N] [--gen N] [--sessions]\n"
note_of (suc (suc (suc zero))) = codes "gaptd: read fault\n"
note_of (suc (suc (suc (suc zero)))) = codes "gaptd: write fault\n"
note_of (suc (suc (suc (suc (suc zero))))) = codes "gaptd: out of memory\n"
note_of (suc (suc (suc (suc (suc (suc zero)))))) = codes "gaptd: input too long\n"
note_of status = []

-- the line that is noted for the end of the sessions of a bundle
abbrev pub note_of_sessions : EndedSessions → List ℕ
note_of_sessions (bundle.Switch number) = codes "gaptd: bad session line " ++ (decimal number ++ 10 ∷ [])
note_of_sessions ended = note_of (status_of_sessions ended)

-- the line was noted, or a part of it where a call failed
abbrev pub IsNoted : List ℕ → ℕ → ℕ → Option (List ℕ) → Option (List ℕ) → Type 0
IsNoted line f f' old new = Appends old new line ⊎ (Rose f f' × ((n : ℕ) × (n < length line) × Appends old new (take n line)))

-- the status's line was noted, or a part of it
abbrev pub Notes : ℕ → ℕ → ℕ → Option (List ℕ) → Option (List ℕ) → Type 0
Notes status f f' old new = IsNoted (note_of status) f f' old new

-- the status and the note of the command's end
abbrev pub status_of_command : EndedCommand → ℕ
status_of_command Refused = 2
status_of_command (Session ended) = status_of ended
status_of_command (Sessions ended) = status_of_sessions ended

abbrev pub note_of_command : EndedCommand → List ℕ
note_of_command Refused = note_of 2
note_of_command (Session ended) = note_of (status_of ended)
note_of_command (Sessions ended) = note_of_sessions ended
