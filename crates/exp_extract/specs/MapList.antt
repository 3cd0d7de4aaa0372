-- Maps by number.
use Rattle.std.specs.Prelude.{◌≡◌, ℕ, ◌<◌, List, length, slice_index_or}
use Rattle.std.specs.FinMap as fin
use Rattle.substitution.specs.Maps.{Map}

-- the map of a number, and some map past the end
abbrev pub map_in : List Map → ℕ → Map
map_in ms n = slice_index_or ms n fin.empty

-- each number of a map is its number in the second list too
abbrev pub KeepsMaps : List Map → List Map → Type 0
KeepsMaps ms ns = (n : ℕ) → n < length ms → (n < length ns) × (map_in ns n ≡ map_in ms n)
