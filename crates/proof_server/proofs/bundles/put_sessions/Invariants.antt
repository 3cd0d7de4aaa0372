-- The first sessions are written.
use Rattle.std.proofs.Common.{◌≤◌, List}
use Rattle.std.specs.List.{AllZip}
use Rattle.sessions.specs.declared.parts.Part.{Part}
use Rattle.proof_server.specs.Parts.{IsServed}
use Rattle.proof_server.proofs.Bundled.{AreWritten}
use Rattle.proof_server.proofs.bundles.put_sessions.Given as goal

abbrev pub invariant-loop-done : goal.invariant-loop-done
invariant-loop-done g l =
    ((parts : List Part) → AllZip IsServed parts l.dones → AreWritten parts l.done-index l.good (g.K.Sink.written l.fn.sink) (g.K.Sink.written l.sink))
    × (g.K.Sink.faults l.fn.sink ≤ g.K.Sink.faults l.sink)
