-- The cell at the number is as what is kept says.
use Rattle.std.proofs.Common.{◌<◌, List, length, sym, ap, subst, arith}
use Rattle.arena_cells.specs.Items.{Item}
use Rattle.arena_cells.specs.Meaning.{IsKeyAt}
use Rattle.arena_cells.proofs.Growth.{items-length}
use Rattle.arena_cells.proofs.cells.Cells.key.Goals as goal

pub unreachable-requires : goal.unreachable-requires
unreachable-requires c =
    let lengths = ap length c.self.view_is in
    let inside : c.args.number < length c.self.inside.cells.entries = omega (arith, lengths, items-length c.self.inside, c.requires) in
    let some = c.in_default.ensures.found.1 inside in
    cc

pub returns : goal.returns
returns c =
    subst (λ (a : List Item). IsKeyAt a c.args.number c.in-Some.key.now) c.self.view_is
    (c.self.invariant.cells c.args.number (c.in-Some.key.now, c.in-Some.field-0-1.now) (sym c.in-Some.ensures.entry)).key
