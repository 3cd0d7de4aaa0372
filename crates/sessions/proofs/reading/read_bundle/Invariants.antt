use Rattle.edge_io.specs.Reader.{allowance}
use Rattle.sessions.proofs.Midway.{Midway}
use Rattle.sessions.proofs.reading.read_bundle.Given as goal

abbrev pub invariant-lines : goal.invariant-lines
invariant-lines g l =
    Midway (g.S.Source.faults l.fn.source) (g.S.Source.faults l.source) (g.S.Source.left l.fn.source) (g.S.Source.left l.source)
    l.reader l.progress l.number

abbrev pub decreases-lines : goal.decreases-lines
decreases-lines g l = allowance l.reader
