-- One more cell whose item stands nowhere keeps what is kept.
use Rattle.std.proofs.Common.{◌≡◌, ℕ, ◌<◌, ◌^◌, List, length, sym, subst, arith}
use Rattle.arena_cells.specs.Items.{Item}
use Rattle.arena_cells.specs.Standing.{Stands, Extends}
use Rattle.arena_cells.specs.Meaning.{meaning, HasParts}
use Rattle.arena_cells.specs.Cells.{stored_of, Cell, items_of}
use Rattle.arena_cells.proofs.Growth.{one_more, indexed_same, indexed_more, grown_more, stands_more}
use Rattle.arena_cells.proofs.cells.Cells.add.Goals as goal

pub invariant_of-self : goal.invariant_of-self
invariant_of-self c = indexed_same c.self.inside _ c.self.invariant c.in_err-insert.ensures.err

pub invariant_of-self-2 : goal.invariant_of-self-2
invariant_of-self-2 c =
    let cell : Cell = (c.args.key, c.args.stored) in
    let absent = subst (λ (a : List Item). (n : ℕ) → Stands a n (meaning a c.args.key) → ⊥) (sym c.self.view_is) c.requires.absent in
    let room : length c.self.inside.cells.entries < 2 ^ 32 = omega (arith, c.len.ensures.len, c.in-Ok.ensures) in
    indexed_more c.self.inside (record { cells = c.insert.new.self }) cell c.self.invariant
    (one_more c.self.inside _ c.args.key c.args.stored c.self.invariant absent c.in_ok-insert.ensures.entries)
    (subst (λ (a : List Item). HasParts a c.args.key) (sym c.self.view_is) c.requires.parts)
    (subst (λ (a : List Item). c.args.stored ≡ stored_of (meaning a c.args.key)) (sym c.self.view_is) c.requires.stored)
    absent room

pub returns-clause-stands : goal.returns-clause-stands
returns-clause-stands c =
    let cell : Cell = (c.args.key, c.args.stored) in
    let absent = subst (λ (a : List Item). (n : ℕ) → Stands a n (meaning a c.args.key) → ⊥) (sym c.self.view_is) c.requires.absent in
    let place : c.in-Ok.number ≡ length c.self.inside.cells.entries = omega (arith, c.len.ensures.len, c.in-Ok.ensures) in
    subst (λ (a : List Item). Stands (items_of (record { cells = c.insert.new.self })) c.in-Ok.number (meaning a c.args.key)) c.self.view_is (
    subst (λ (n : ℕ). Stands (items_of (record { cells = c.insert.new.self })) n (meaning (items_of c.self.inside) c.args.key)) (sym place)
    (stands_more c.self.inside (record { cells = c.insert.new.self }) cell c.self.invariant (one_more c.self.inside _ c.args.key c.args.stored c.self.invariant absent c.in_ok-insert.ensures.entries)))

pub returns-clause-grown : goal.returns-clause-grown
returns-clause-grown c =
    let cell : Cell = (c.args.key, c.args.stored) in
    let absent = subst (λ (a : List Item). (n : ℕ) → Stands a n (meaning a c.args.key) → ⊥) (sym c.self.view_is) c.requires.absent in
    subst (λ (a : List Item). Extends a (items_of (record { cells = c.insert.new.self }))) c.self.view_is
    (grown_more c.self.inside (record { cells = c.insert.new.self }) cell c.self.invariant (one_more c.self.inside _ c.args.key c.args.stored c.self.invariant absent c.in_ok-insert.ensures.entries))
