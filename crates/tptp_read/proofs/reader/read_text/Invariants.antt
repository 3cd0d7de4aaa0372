use Rattle.std.proofs.Common.{◌≡◌, ◌≤◌, length}
use Rattle.tptp_tokens.specs.Stream.{stream_of}
use Rattle.tptp_read.specs.Given.{meaning}
use Rattle.tptp_read.specs.Texts.{read}
use Rattle.tptp_read.proofs.Reading.{read_rest}
use Rattle.tptp_read.proofs.reader.read_text.Given as goal

-- the rest of the text from here gives what the whole text gives
abbrev pub invariant-loop-state : goal.invariant-loop-state
invariant-loop-state l =
    (length l.rest ≤ length l.text) × (read_rest l.limits (meaning l.state) (length l.text) l.rest ≡ read l.limits (meaning l.initial.state) (stream_of l.text))

abbrev pub decreases-loop-state : goal.decreases-loop-state
decreases-loop-state l = length l.rest
