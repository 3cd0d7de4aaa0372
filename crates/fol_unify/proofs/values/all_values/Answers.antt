-- The values of the classes of one more number are made.
use Rattle.std.proofs.Common.{arith}
use Rattle.fol_unify.proofs.Solved.{solved_stays, inside_stays}
use Rattle.fol_unify.proofs.Bindings.{done_more}
use Rattle.fol_unify.proofs.values.all_values.Goals as goal

pub note_value-requires-clause-inside : goal.note_value-requires-clause-inside
note_value-requires-clause-inside c = inside_stays c.args.cells.now c.loop-number.cells c.args.equations.now c.args.roots.now c.loop-number.invariant.grown c.requires.solved

pub note_value-requires-clause-solved : goal.note_value-requires-clause-solved
note_value-requires-clause-solved c = solved_stays c.args.cells.now c.loop-number.cells c.args.equations.now c.args.roots.now c.loop-number.invariant.grown c.requires.solved

pub loop-number-preserved : goal.loop-number-preserved
loop-number-preserved c =
    let before = c.loop-number.cells in
    let solved = solved_stays c.args.cells.now before c.args.equations.now c.args.roots.now c.loop-number.invariant.grown c.requires.solved in
    let got = c.in_ok-note_value.ensures in
    record {
      grown = λ n t h. got.grown n t (c.loop-number.invariant.grown n t h);
      valued = got.valued;
      closed = λ r o. c.loop-number.invariant.closed r (got.marks.were_open r o);
      done = done_more before c.note_value.new.cells c.args.equations.now c.args.roots.now c.loop-number.marks.items c.note_value.new.marks.items c.loop-number.number got.grown solved got.marks (omega arith) c.loop-number.invariant.done got.value;
    }
