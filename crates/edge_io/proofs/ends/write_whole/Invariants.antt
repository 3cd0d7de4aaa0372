use Rattle.std.proofs.Common.{◌≡◌, ◌-◌, ◌≤◌, length, take}
use Rattle.std.specs.Io.KnownBytes.{Appends}
use Rattle.edge_io.proofs.ends.write_whole.Given as goal

-- the first `written` bytes were appended, and nothing was flushed
abbrev pub invariant-loop-written : goal.invariant-loop-written
invariant-loop-written g l = (l.written ≤ length l.bytes)
    × Appends (g.K.Sink.written l.initial.sink) (g.K.Sink.written l.sink) (take l.written l.bytes)
    × (g.K.Sink.flushed l.sink ≡ g.K.Sink.flushed l.initial.sink)
    × (g.K.Sink.faults l.initial.sink ≤ g.K.Sink.faults l.sink)

abbrev pub decreases-loop-written : goal.decreases-loop-written
decreases-loop-written g l = length l.bytes - l.written
