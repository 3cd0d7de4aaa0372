use Rattle.edge_io.specs.Reader.{allowance}
use Rattle.session_laws.specs.Jobs.{max_input}
use Rattle.proof_server.proofs.Midway.{Midway}
use Rattle.proof_server.proofs.serving.serve_lines.Given as goal

abbrev pub invariant-lines : goal.invariant-lines
invariant-lines g l = Midway l.desk max_input (g.S.Source.faults l.fn.source) (g.S.Source.faults l.source) (g.K.Sink.faults l.fn.sink) (g.K.Sink.faults l.sink)
    (g.S.Source.left l.fn.source) (g.S.Source.left l.source) l.reader (g.K.Sink.written l.fn.sink) (g.K.Sink.written l.sink) l.session

abbrev pub decreases-lines : goal.decreases-lines
decreases-lines g l = allowance l.reader
