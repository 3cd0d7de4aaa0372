-- Lists of numbers: with the same members, and of closed and of open things.
use Rattle.std.specs.Prelude.{◌≡◌, ℕ, Bool, not, List}
use Rattle.std.specs.List.{list_any}
use Rattle.std.specs.Ordering.{nat_cmp, eq_by_cmp}
use Rattle.arena_cells.specs.Items.{Item}
use Rattle.arena_cells.specs.ItemFacts.{is_open_item}
use Rattle.arena_cells.specs.Standing.{item_at}

-- each number is in both lists or in neither
abbrev pub HasSameMembers : List ℕ → List ℕ → Type 0
HasSameMembers xs ys = (n : ℕ) → list_any (eq_by_cmp nat_cmp n) xs ≡ list_any (eq_by_cmp nat_cmp n) ys

-- a variable is free in what stands at the number
abbrev pub is_open_at : List Item → ℕ → Bool
is_open_at a n = is_open_item (item_at a n)

-- no variable is
abbrev pub is_closed_at : List Item → ℕ → Bool
is_closed_at a n = not (is_open_at a n)
