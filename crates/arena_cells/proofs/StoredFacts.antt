-- What is stored of an item tells what is known of it.
use Rattle.std.proofs.Common.{◌≡◌, ℕ, Bool, false, refl}
use Rattle.fol.specs.Facts.{is_term_open, are_terms_open, is_open, term_dangling, terms_dangling, formula_dangling}
use Rattle.arena_cells.specs.declared.cells.Stored.{Stored}
use Rattle.arena_cells.specs.declared.cells.Stored.TheVariants.{Term, Terms, Formula}
use Rattle.arena_cells.specs.Items.{Item, symbol, term, terms, formula, variables, substitution, side, sequent, tree}
use Rattle.arena_cells.specs.Cells.{stored_of}
use Rattle.arena_cells.specs.ItemFacts.{is_open_item, item_dangling}

abbrev pub is_open_stored : Stored → Bool
is_open_stored (Term t) = is_term_open t
is_open_stored (Terms ts) = are_terms_open ts
is_open_stored (Formula f) = is_open f
is_open_stored s = false

abbrev pub stored_dangling : Stored → ℕ
stored_dangling (Term t) = term_dangling t
stored_dangling (Terms ts) = terms_dangling ts
stored_dangling (Formula f) = formula_dangling f
stored_dangling s = 0

pub open_stored : (i : Item) → is_open_stored (stored_of i) ≡ is_open_item i
open_stored (symbol x) = refl
open_stored (term x) = refl
open_stored (terms x) = refl
open_stored (formula x) = refl
open_stored (variables x) = refl
open_stored (substitution x) = refl
open_stored (side x) = refl
open_stored (sequent x) = refl
open_stored (tree x) = refl

pub dangling_stored : (i : Item) → stored_dangling (stored_of i) ≡ item_dangling i
dangling_stored (symbol x) = refl
dangling_stored (term x) = refl
dangling_stored (terms x) = refl
dangling_stored (formula x) = refl
dangling_stored (variables x) = refl
dangling_stored (substitution x) = refl
dangling_stored (side x) = refl
dangling_stored (sequent x) = refl
dangling_stored (tree x) = refl
