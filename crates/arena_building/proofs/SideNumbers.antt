-- The sequent whose sides stand at two numbers.
use Rattle.std.proofs.Common.{◌≡◌, List}
use Rattle.lk_rules.specs.declared.sequent.Sequent.{Sequent}
use Rattle.arena_cells.specs.Items.{Item}
use Rattle.arena_cells.specs.Standing.{Extends}
use Rattle.arena_cells.proofs.Staying.{is_side}
use Rattle.arena_building.specs.Sides.{sides_at, HasSides}
use Rattle.arena_building.specs.declared.sides.Sides.{Sides}

pub sides_are : (a : List Item) (s : Sides) (e : Sequent) → HasSides a s e → sides_at a s ≡ e
sides_are a s e h = λ i. record { left = is_side a s.left e.left h.left i; right = is_side a s.right e.right h.right i }

pub sides_stay : (a b : List Item) (s : Sides) (e : Sequent) → Extends a b → HasSides a s e → HasSides b s e
sides_stay a b s e grown h = record { left = grown _ _ h.left; right = grown _ _ h.right }
