-- The side that went out last, and how places follow numbers that come or go.
use Rattle.std.specs.Prelude.{◌≡◌, ℕ, Bool, List, IfSome}
use Rattle.std.specs.Ordering.{eq_by_cmp}
use Rattle.fol.specs.Syntax.{Formula}
use Rattle.fol.specs.Order.{formula_cmp}
use Rattle.arena_cells.specs.Items.{Item}
use Rattle.arena_cells.specs.Standing.{formula_at, side_at, IsSideAt}
use Rattle.arena_graph.specs.declared.ranks.RankedFormula.{RankedFormula}
use Rattle.arena_graph.specs.declared.last_side.LastSide.{LastSide}
use Rattle.arena_graph.specs.Ranks.{formula_in}
use Rattle.arena_graph.specs.Places.{ArePlaces, ArePlacesOf}
use Rattle.arena_graph.specs.Changes.{differ, is_odd}

-- the side that stands at the number has these places
pub record IsPlacedSide (a : List Item) (es : List RankedFormula) (ps : List ℕ) (n : ℕ) : Type 0 where
  pub there : IsSideAt a n
  pub places : ArePlacesOf es (side_at a n) ps

-- the places are those of the side, if there is one
abbrev pub IsLastSide : List Item → List RankedFormula → LastSide → Type 0
IsLastSide a es l = IfSome l.side (IsPlacedSide a es l.places.items)

-- the formula stands at the place
abbrev pub is_in : List RankedFormula → Formula → ℕ → Bool
is_in es f k = eq_by_cmp formula_cmp f (formula_in es k)

-- the formula stands at the number
abbrev pub is_at : List Item → Formula → ℕ → Bool
is_at a f n = eq_by_cmp formula_cmp f (formula_at a n)

-- the formulas at the places qs are those at the places ps but for those at the numbers, which come or go
pub record DoFollow (a : List Item) (es : List RankedFormula) (changes ps qs : List ℕ) : Type 0 where
  pub places : ArePlaces es qs
  pub formulas : (f : Formula) → is_odd (is_in es f) qs ≡ differ (is_odd (is_in es f) ps) (is_odd (is_at a f) changes)
