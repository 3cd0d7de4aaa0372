-- A formula of an arena by its key.
use Rattle.std.proofs.Common.{◌≡◌, ℕ, List, ap}
use Rattle.fol.specs.Syntax.{Formula}
use Rattle.arena_cells.specs.declared.key.Key.{Key}
use Rattle.arena_cells.specs.Items.{Item}
use Rattle.arena_cells.specs.Standing.{formula_of, formula_at}
use Rattle.arena_cells.specs.Meaning.{meaning, IsKeyAt}
use Rattle.arena_cells.proofs.Staying.{item_is}

-- the formula that a key means, or truth
abbrev pub shape : List Item → Key → Formula
shape a k = formula_of (meaning a k)

pub shape_at : (a : List Item) (n : ℕ) (k : Key) → IsKeyAt a n k → formula_at a n ≡ shape a k
shape_at a n k h = ap formula_of (item_is a n (meaning a k) h.stands)
