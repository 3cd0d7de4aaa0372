-- A clause is shown where the atoms on both sides are.
use Rattle.operations.proofs.ShownParts.{clause_shown}
use Rattle.operations.proofs.shown.is_shown_clause.Goals as goal

pub returns-then-are_shown_atoms : goal.returns-then-are_shown_atoms
returns-then-are_shown_atoms c second =
    clause_shown c.args.clause.now c.as_slice.result.now c.as_slice-then-are_shown_atoms.result.now c.are_shown_atoms.result c.are_shown_atoms-then-are_shown_atoms.result
    c.as_slice.ensures.listing c.as_slice-then-are_shown_atoms.ensures.listing c.are_shown_atoms.ensures c.are_shown_atoms-then-are_shown_atoms.ensures c.if-are_shown_atoms.true second
