use Rattle.std.proofs.Common.{sym}
use Rattle.edge_io.proofs.Partway.{takes_whole, takes_part}
use Rattle.edge_io.proofs.lines.take_piece.Goals as goal

pub returns-in_ok-extend-in-Some-clause-ok : goal.returns-in_ok-extend-in-Some-clause-ok
returns-in_ok-extend-in-Some-clause-ok c =
    takes_whole _ c.in-Some.at _ _ _ _ c.pending-pending.result.now c.pending-pending.ensures (sym c.in-Some.ensures)
    c.in_ok-extend-in-Some.ensures c.advance.ensures

pub returns-in_ok-extend-in-None-clause-ok : goal.returns-in_ok-extend-in-None-clause-ok
returns-in_ok-extend-in-None-clause-ok c =
    takes_part _ _ _ _ _ c.pending-pending.result.now c.pending-pending.ensures (sym c.in-None.ensures)
    c.in_ok-extend-in-None.ensures c.advance-in-None.ensures
