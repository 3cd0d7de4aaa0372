-- What is stored of what stands at a number.
use Rattle.std.proofs.Common.{◌≡◌, ℕ, List, ap}
use Rattle.arena_cells.specs.declared.cells.Stored.TheVariants.{Symbol, Term, Terms, Formula}
use Rattle.arena_cells.specs.Items.{Item}
use Rattle.arena_cells.specs.Standing.{item_at, symbol_at, term_at, terms_at, formula_at, IsSymbolAt, IsTermAt, IsTermsAt, IsFormulaAt}
use Rattle.arena_cells.specs.Cells.{stored_of}
use Rattle.arena_cells.proofs.Staying.{item_is}

pub symbol_stored : (a : List Item) (n : ℕ) → IsSymbolAt a n → stored_of (item_at a n) ≡ Symbol (symbol_at a n)
symbol_stored a n h = ap stored_of (item_is a n _ h)

pub term_stored : (a : List Item) (n : ℕ) → IsTermAt a n → stored_of (item_at a n) ≡ Term (term_at a n)
term_stored a n h = ap stored_of (item_is a n _ h)

pub terms_stored : (a : List Item) (n : ℕ) → IsTermsAt a n → stored_of (item_at a n) ≡ Terms (terms_at a n)
terms_stored a n h = ap stored_of (item_is a n _ h)

pub formula_stored : (a : List Item) (n : ℕ) → IsFormulaAt a n → stored_of (item_at a n) ≡ Formula (formula_at a n)
formula_stored a n h = ap stored_of (item_is a n _ h)
