use Rattle.std.proofs.Common.{◌∙◌, true, false, ap, sym, arith}
use Rattle.edge_io.specs.LineSoFar.{TakesPiece}
use Rattle.edge_io.proofs.Partway.{answers_next, moves_part, moves_rest, takes_more, ends_line, cuts_off, overflows, rose_since}
use Rattle.edge_io.proofs.next.next_line.Goals as goal

pub returns-in-Ok-true-clause-answer : goal.returns-in-Ok-true-clause-answer
returns-in-Ok-true-clause-answer g c =
    let piece : TakesPiece true _ _ _ _ _ = rw c.in-Ok-true.field-0-test at c.in-Ok-true.ensures.ok in
    let whole = moves_rest _ c.take_piece.new.line _ _ _ _ _ _ c.pieces.invariant.0 piece in
    rw c.into_next.ensures (answers_next c.take_piece.new.line _ _ _ _ _ _ _ whole)

pub pieces-preserved : goal.pieces-preserved
pieces-preserved g c =
    let piece : TakesPiece false _ _ _ _ _ = rw c.in-Ok-false.field-0-test at c.in-Ok-false.ensures.ok in
    let part = moves_part _ _ _ _ _ _ _ _ c.pieces.invariant.0 piece in
    (takes_more _ _ _ _ _ _ _ _ part piece.split.1 c.in-Bytes.ensures.refills, omega (arith, c.refill.ensures.kept, c.pieces.invariant.1))

pub returns-in-Fault-clause-answer : goal.returns-in-Fault-clause-answer
returns-in-Fault-clause-answer g c =
    let piece : TakesPiece false _ _ _ _ _ = rw c.in-Ok-false.field-0-test at c.in-Ok-false.ensures.ok in
    let part = moves_part _ _ _ _ _ _ _ _ c.pieces.invariant.0 piece in
    let fault = c.in-Fault.ensures.refills in (
      rose_since _ _ _ c.pieces.invariant.1 fault.0,
      part.began,
      cuts_off _ _ _ _ _ _ _ part piece.split.1 fault.1,
      ap (λ r. r.ended) c.finish-in-Fault.ensures,
    )

pub returns-in-Full-clause-answer : goal.returns-in-Full-clause-answer
returns-in-Full-clause-answer g c =
    let piece : TakesPiece false _ _ _ _ _ = rw c.in-Ok-false.field-0-test at c.in-Ok-false.ensures.ok in
    let part = moves_part _ _ _ _ _ _ _ _ c.pieces.invariant.0 piece in (
      part.began,
      overflows _ _ _ _ _ _ _ part piece.split.1 c.in-Full.ensures.refills.0,
      ap (λ r. r.ended) c.finish-in-Full.ensures,
    )

pub returns-clause-answer : goal.returns-clause-answer
returns-clause-answer g c =
    let piece : TakesPiece false _ _ _ _ _ = rw c.in-Ok-false.field-0-test at c.in-Ok-false.ensures.ok in
    let part = moves_part _ _ _ _ _ _ _ _ c.pieces.invariant.0 piece in
    let end = c.in-End.ensures.refills in
    let last = ends_line c.take_piece.new.line _ _ _ _ _ _ _ part piece.split.1 end.0 end.1 end.2 (sym c.is_empty.ensures ∙ c.if-is_empty.false) in
    rw c.into_next-2.ensures (answers_next c.take_piece.new.line _ _ _ _ _ _ _ last)
