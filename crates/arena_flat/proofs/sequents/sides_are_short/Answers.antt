-- The formulas of both sides are short.
use Rattle.arena_cells.specs.Standing.{sequent_at}
use Rattle.arena_flat.proofs.SideSets.{short_sides}
use Rattle.arena_flat.proofs.sequents.sides_are_short.Goals as goal

pub returns : goal.returns
returns c =
    let a = c.args.from.now in
    short_sides a (sequent_at a c.args.sequent) c.sides-left.result.0 c.sides-left.result.1 c.side_numbers.result.now c.side_numbers-2.result.now c.sides-left.ensures.left c.sides-left.ensures.right
    c.side_numbers.ensures.shown c.side_numbers-2.ensures.shown c.are_short.ensures c.are_short-2.ensures
