-- What is known of a term, a list of terms or a formula without a walk; of other items nothing of the kind is asked.
use Rattle.std.specs.Prelude.{ℕ, Bool, false}
use Rattle.fol.specs.Facts.{is_term_open, are_terms_open, is_open, term_dangling, terms_dangling, formula_dangling}
use Rattle.arena_cells.specs.Items.{Item, term, terms, formula}

-- whether a variable is free in the item
abbrev pub is_open_item : Item → Bool
is_open_item (term t) = is_term_open t
is_open_item (terms ts) = are_terms_open ts
is_open_item (formula f) = is_open f
is_open_item i = false

-- the least number that is above each index of a quantifier around
abbrev pub item_dangling : Item → ℕ
item_dangling (term t) = term_dangling t
item_dangling (terms ts) = terms_dangling ts
item_dangling (formula f) = formula_dangling f
item_dangling i = 0
