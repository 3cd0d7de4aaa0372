use Rattle.std.proofs.Common.{◌≤◌}
use Rattle.edge_io.proofs.Partway.{IsPartway}
use Rattle.edge_io.proofs.next.next_line.Given as goal

-- a line was begun, and the count of faults never fell
abbrev pub invariant-pieces : goal.invariant-pieces
invariant-pieces g l = IsPartway l.max l.line l.initial.reader l.reader (g.S.Source.left l.initial.source) (g.S.Source.left l.source)
    × (g.S.Source.faults l.initial.source ≤ g.S.Source.faults l.source)

abbrev pub decreases-pieces : goal.decreases-pieces
decreases-pieces g l = l.reader.room
