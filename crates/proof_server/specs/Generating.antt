-- What a run over generated jobs comes to. Their replies are those of a session over the lines, in which no job lacks memory; they are
-- counted, and the counts alone are written.
use Rattle.std.specs.Prelude.{◌≡◌, ℕ, ◌≤◌, ◌==◌, Bool, false, List, length, take, Option}
use Rattle.std.specs.List.{All}
use Rattle.std.specs.Io.KnownBytes.{Appends, Keeps}
use Rattle.edge_io.specs.Causes.{Rose}
use Rattle.edge_io.specs.Lines.{lines_of}
use Rattle.job_gen.specs.Generated.{generated}
use Rattle.session_laws.specs.Answers.{lacked}
use Rattle.session_laws.specs.Session.{Replies}
use Rattle.proof_server.specs.Counting.{counts_of, counts_line}
use Rattle.proof_server.specs.Ending.{status_of}
use Rattle.proof_server.specs.declared.counts.Counts.{Counts}
use Rattle.proof_server.specs.declared.ending.Ended.{Ended}
use Rattle.proof_server.specs.declared.ending.Ended.TheVariants.{Done, ReadFault, WriteFault, Memory, InputFull}

-- the replies to n generated jobs, none of which lacked memory, and their counts
pub record AreCounts (n : ℕ) (counts : Counts) : Type 0 where
  pub bytes : List ℕ
  pub replies : Replies (lines_of (generated n)) bytes
  pub ample : All (λ job. lacked job ≡ false) replies.done
  pub counted : counts ≡ counts_of replies.done

-- the line of counts was written and flushed; it tells of no error where the end is good
pub record IsCounted (good : Bool) (n : ℕ) (old new flushed : Option (List ℕ)) : Type 0 where
  pub counts : Counts
  pub are : AreCounts n counts
  pub to : Appends old new (counts_line counts)
  pub good_is : good ≡ (counts.refused == 0)
  pub all_flushed : flushed ≡ new

-- what was written is the beginning of the line of counts
pub record IsCountedInPart (n : ℕ) (old new : Option (List ℕ)) : Type 0 where
  pub counts : Counts
  pub are : AreCounts n counts
  pub size : ℕ
  pub within : size ≤ length (counts_line counts)
  pub to : Appends old new (take size (counts_line counts))

-- how a run over n generated jobs ended: the sink's count of faults went from k to k', and where memory ran out nothing was written
abbrev pub EndsCounting : Ended → ℕ → ℕ → ℕ → Option (List ℕ) → Option (List ℕ) → Option (List ℕ) → Type 0
EndsCounting (Done good) n k k' old new flushed = IsCounted good n old new flushed
EndsCounting WriteFault n k k' old new flushed = Rose k k' × IsCountedInPart n old new
EndsCounting Memory n k k' old new flushed = Keeps old new
EndsCounting ReadFault n k k' old new flushed = ⊥
EndsCounting InputFull n k k' old new flushed = ⊥

-- n generated jobs were run, and the answer is the status of the end
abbrev pub Generates : ℕ → ℕ → ℕ → ℕ → Option (List ℕ) → Option (List ℕ) → Option (List ℕ) → Type 0
Generates status n k k' old new flushed = (ended : Ended) × (status ≡ status_of ended) × EndsCounting ended n k k' old new flushed
