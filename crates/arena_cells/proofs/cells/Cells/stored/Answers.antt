-- The cell at the number is as what is kept says.
use Rattle.std.proofs.Common.{◌≡◌, ◌<◌, List, length, sym, ap, ◌∙◌, subst, arith}
use Rattle.arena_cells.specs.Items.{Item}
use Rattle.arena_cells.specs.Standing.{item_at}
use Rattle.arena_cells.specs.Cells.{stored_of, items_of}
use Rattle.arena_cells.proofs.Staying.{item_is}
use Rattle.arena_cells.proofs.Growth.{items-length}
use Rattle.arena_cells.proofs.cells.Cells.stored.Goals as goal

pub unreachable-requires : goal.unreachable-requires
unreachable-requires c =
    let lengths = ap length c.self.view_is in
    let inside : c.args.number < length c.self.inside.cells.entries = omega (arith, lengths, items-length c.self.inside, c.requires) in
    let some = c.in_default.ensures.found.1 inside in
    cc

pub returns : goal.returns
returns c =
    let cell = c.self.invariant.cells c.args.number (c.in-Some.field-0-0.now, c.in-Some.stored.now) (sym c.in-Some.ensures.entry) in
    subst (λ (a : List Item). c.in-Some.stored.now ≡ stored_of (item_at a c.args.number)) c.self.view_is
    (cell.stored ∙ ap stored_of (sym (item_is (items_of c.self.inside) c.args.number _ cell.key.stands)))
