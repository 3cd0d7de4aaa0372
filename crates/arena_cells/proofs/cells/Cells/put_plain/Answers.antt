-- The key goes last, or its cell stays as it is.
use Rattle.std.proofs.Common.{ℕ, ◌<◌, ◌^◌, List, length, sym, subst, arith}
use Rattle.arena_cells.specs.Items.{Item}
use Rattle.arena_cells.specs.Standing.{Stands, Extends}
use Rattle.arena_cells.specs.Meaning.{meaning, HasParts}
use Rattle.arena_cells.specs.Cells.{items_of}
use Rattle.arena_cells.proofs.Growth.{indexed_same, put_plain}
use Rattle.arena_cells.proofs.cells.Cells.put_plain.Goals as goal

pub invariant_of-self : goal.invariant_of-self
invariant_of-self c = indexed_same c.self.inside _ c.self.invariant c.in_err-number.ensures.err

pub invariant_of-self-2 : goal.invariant_of-self-2
invariant_of-self-2 c =
    let room : length c.self.inside.cells.entries < 2 ^ 32 = omega (arith, c.len.ensures.len, c.in-Ok.ensures) in
    (put_plain c.self.inside (record { cells = c.insert_full.new.self }) c.args.key c.self.invariant (subst (λ (a : List Item). HasParts a c.args.key) (sym c.self.view_is) c.requires.parts)
    c.requires.plain room c.in_ok-number.ensures.entries).indexed

pub returns-clause-stands : goal.returns-clause-stands
returns-clause-stands c =
    let room : length c.self.inside.cells.entries < 2 ^ 32 = omega (arith, c.len.ensures.len, c.in-Ok.ensures) in
    subst (λ (a : List Item). Stands (items_of (record { cells = c.insert_full.new.self })) c.in_ok-number.number (meaning a c.args.key)) c.self.view_is (
    subst (λ (n : ℕ). Stands (items_of (record { cells = c.insert_full.new.self })) n (meaning (items_of c.self.inside) c.args.key)) (sym c.in_ok-number.ensures.index)
    (put_plain c.self.inside (record { cells = c.insert_full.new.self }) c.args.key c.self.invariant (subst (λ (a : List Item). HasParts a c.args.key) (sym c.self.view_is) c.requires.parts)
    c.requires.plain room c.in_ok-number.ensures.entries).stands)

pub returns-clause-grown : goal.returns-clause-grown
returns-clause-grown c =
    let room : length c.self.inside.cells.entries < 2 ^ 32 = omega (arith, c.len.ensures.len, c.in-Ok.ensures) in
    subst (λ (a : List Item). Extends a (items_of (record { cells = c.insert_full.new.self }))) c.self.view_is
    (put_plain c.self.inside (record { cells = c.insert_full.new.self }) c.args.key c.self.invariant (subst (λ (a : List Item). HasParts a c.args.key) (sym c.self.view_is) c.requires.parts)
    c.requires.plain room c.in_ok-number.ensures.entries).grown
