-- A key is found where its item stands.
use Rattle.std.proofs.Common.{ℕ, List, sym, subst}
use Rattle.arena_cells.specs.Items.{Item}
use Rattle.arena_cells.specs.Standing.{Stands}
use Rattle.arena_cells.specs.Meaning.{meaning, HasParts}
use Rattle.arena_cells.proofs.Growth.{found_item, absent_item}
use Rattle.arena_cells.proofs.cells.Cells.find.Goals as goal

pub returns-in_err-number-clause-absent : goal.returns-in_err-number-clause-absent
returns-in_err-number-clause-absent c none =
    subst (λ (a : List Item). (n : ℕ) → Stands a n (meaning a c.args.key.now) → ⊥) c.self.view_is
    (absent_item c.self.inside c.self.invariant c.args.key.now (subst (λ (a : List Item). HasParts a c.args.key.now) (sym c.self.view_is) c.requires) (sym c.in_err-number.ensures.found))

pub returns-clause-found : goal.returns-clause-found
returns-clause-found c =
    subst (λ (a : List Item). Stands a c.in_ok-number.number (meaning a c.args.key.now)) c.self.view_is
    (found_item c.self.inside c.self.invariant c.args.key.now c.in_ok-number.number (sym c.in_ok-number.ensures.index))
