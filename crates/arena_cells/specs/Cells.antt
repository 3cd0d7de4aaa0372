-- What an arena keeps: cells in the order in which they came, each with its key and, for some kinds, its value.
use Rattle.std.specs.Prelude.{◌≡◌, ℕ, ◌≤◌, ◌^◌, List, [], ◌∷◌, ◌++◌, length, Some, slice_get}
use Rattle.fol.specs.Syntax.{Formula, not, and, or, imp, all, ex}
use Rattle.arena_cells.specs.declared.key.Key.{Key}
use Rattle.arena_cells.specs.declared.key.Key.TheVariants as keys
use Rattle.arena_cells.specs.declared.cells.Stored.{Stored}
use Rattle.arena_cells.specs.declared.cells.Stored.TheVariants as stored
use Rattle.arena_cells.specs.declared.cells.Cells.TheInside.{Inside}
use Rattle.arena_cells.specs.Items.{Item, symbol, term, terms, formula}
use Rattle.arena_cells.specs.Standing.{IsDistinct}
use Rattle.arena_cells.specs.Meaning.{meaning, IsKeyAt}

-- the formula that a key makes of one formula
abbrev pub quantified_or_negated : Key → Formula → Formula
quantified_or_negated (keys.Not m) f = not f
quantified_or_negated (keys.All m) f = all f
quantified_or_negated k f = ex f

-- the formula that a key makes of two formulas
abbrev pub connected : Key → Formula → Formula → Formula
connected (keys.And m n) f g = and f g
connected (keys.Or m n) f g = or f g
connected k f g = imp f g

-- what is stored of an item
abbrev pub stored_of : Item → Stored
stored_of (symbol x) = stored.Symbol x
stored_of (term x) = stored.Term x
stored_of (terms x) = stored.Terms x
stored_of (formula x) = stored.Formula x
stored_of i = stored.Nothing

-- a key with what is stored of its item
abbrev pub Cell : Type 0
Cell = Key × Stored

-- the items of cells that came after those of a
abbrev pub items_from : List Item → List Cell → List Item
items_from a [] = a
items_from a (c ∷ cs) = items_from (a ++ meaning a c.0 ∷ []) cs

-- the items of cells
abbrev pub items_of : Inside → List Item
items_of i = items_from [] i.cells.entries

-- the cell stands at the number n, and its value is stored
pub record IsCellAt (a : List Item) (n : ℕ) (c : Cell) : Type 0 where
  pub key : IsKeyAt a n c.0
  pub stored : c.1 ≡ stored_of (meaning a c.0)

-- each cell's item is as its key says, and stands once; there are at most 2 ^ 32
pub record IsIndexed (i : Inside) : Type 0 where
  pub cells : (n : ℕ) (c : Cell) → slice_get i.cells.entries n ≡ Some c → IsCellAt (items_of i) n c
  pub distinct : IsDistinct (items_of i)
  pub few : length i.cells.entries ≤ 2 ^ 32
