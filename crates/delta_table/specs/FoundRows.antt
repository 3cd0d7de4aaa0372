-- The rows of an item with the places of their tuples.
--     PlacedRow      a row with the places of its tuples
--     few_row      the row of two to `width` tuples
--     founds_after      the rows of chosen tuples and others after these
--     founds_from, founds      those whose first tuple is at a place; all of an item
--     values_in, all_values, tables_of      sets of values, and the rows of all items
--     noted, tally_by, tally_of      how many rows have a set of values, and the places of their tuples
--     row_at, AreRows, AreTables      what rows by numbers mean
--     numbers_in, all_numbers, tally_at, tallies_at, noted_at      the same of rows by numbers
use Rattle.std.specs.Prelude.{◌≡◌, ℕ, suc, ◌+◌, ◌^◌, Bool, ◌&&◌, nat_lt, if◌then◌else◌, List, [], ◌++◌, map, length, take, drop, fold, Option, Some, None, option_map, slice_set, slice_index_or, bit_or}
use Rattle.std.specs.List.{All, filter_map, flat_map}
use Rattle.fol.specs.Syntax.{Terms}
use Rattle.herbrand_laws.specs.Herbrand.{Item}
use Rattle.herbrand_laws.specs.Patterns.{TermSet, Row, delta}
use Rattle.herbrand_laws.specs.Candidates.{same_terms}
use Rattle.arena_cells.specs.Items.{Item as Thing}
use Rattle.numbered_terms.specs.NumberSets.{same_numbers}
use Rattle.numbered_terms.specs.Numbered.{set_at, IsTermSet}
use Rattle.delta_table.specs.declared.founds.Found.{Found}
use Rattle.delta_table.specs.declared.tallies.Tally.{Tally}
use Rattle.delta_table.specs.Places.{placed}

-- the values of a row, with the places of its tuples
pub record PlacedRow : Type 0 where
  pub values : TermSet
  pub places : ℕ

-- whether so many tuples may have a row
abbrev pub is_few : ℕ → ℕ → Bool
is_few width n = nat_lt 1 n && nat_lt n (suc width)

-- the row of a list of two to `width` tuples
abbrev pub few_row : ℕ → List Terms → Option Row
few_row width uss = if is_few width (length uss) then delta uss else None

-- a row with the places of its tuples
abbrev pub found_row : ℕ → Row → PlacedRow
found_row places r = record { values = r.values; places = places }

-- the row of chosen tuples, whose places are given, and of others after these
abbrev pub found_at : ℕ → List Terms → ℕ → List Terms × ℕ → Option PlacedRow
found_at width chosen places s = option_map (found_row (bit_or places s.1)) (few_row width (chosen ++ s.0))

abbrev pub founds_after : ℕ → List Terms → ℕ → ℕ → List Terms → List PlacedRow
founds_after width chosen places k rest = filter_map (found_at width chosen places) (placed k rest)

-- the rows of an item's tuples of which that at a place is the first
abbrev pub founds_from : ℕ → List Terms → ℕ → List PlacedRow
founds_from width tuples at = founds_after width (take 1 (drop at tuples)) (bit_or 0 (2 ^ at)) (at + 1) (drop (at + 1) tuples)

-- the rows of an item's tuples
abbrev pub founds : ℕ → List Terms → List PlacedRow
founds width tuples = founds_after width [] 0 0 tuples

-- all sets of values
abbrev pub values_in : List PlacedRow → List TermSet
values_in fs = map (λ f. f.values) fs

abbrev pub all_values : List (List PlacedRow) → List TermSet
all_values fss = flat_map values_in fss

-- the rows of each item
abbrev pub tables_of : ℕ → List Item → List (List PlacedRow)
tables_of width items = map (λ i. founds width i.tuples) items

-- a row more, with the places of its tuples
abbrev pub noted : ℕ → Tally → Tally
noted places t = record { rows = t.rows + 1; places = bit_or t.places places }

abbrev pub nothing : Tally
nothing = record { rows = 0; places = 0 }

-- how many rows pass a test, and the places of the tuples of all of these rows
abbrev pub tally_by : {R : Type 0} → (R → Bool) → (R → ℕ) → List R → Tally
tally_by p places rs = fold (λ t r. if p r then noted (places r) t else t) nothing rs

-- how many rows have these values, and the places of the tuples of all of these rows
abbrev pub tally_of : TermSet → List PlacedRow → Tally
tally_of w fs = tally_by (λ f. same_terms f.values w) (λ f. f.places) fs

-- the row that a row by numbers means
abbrev pub row_at : List Thing → Found → PlacedRow
row_at a f = record { values = set_at a f.values; places = f.places }

-- rows by numbers mean these rows
pub record AreRows (a : List Thing) (rows : List Found) (fs : List PlacedRow) : Type 0 where
  pub shown : map (row_at a) rows ≡ fs
  pub sets : All (λ f. IsTermSet a f.values) rows

-- the rows of each item, by numbers
pub record AreTables (a : List Thing) (tables : List (List Found)) (fss : List (List PlacedRow)) : Type 0 where
  pub shown : map (map (row_at a)) tables ≡ fss
  pub sets : All (All (λ f. IsTermSet a f.values)) tables

-- all sets of numbers
abbrev pub numbers_in : List Found → List (List ℕ)
numbers_in rows = map (λ f. f.values) rows

abbrev pub all_numbers : List (List Found) → List (List ℕ)
all_numbers tables = flat_map numbers_in tables

-- how many rows have these numbers, and the places of the tuples of all of these rows
abbrev pub tally_at : List ℕ → List Found → Tally
tally_at k rows = tally_by (λ f. same_numbers f.values k) (λ f. f.places) rows

abbrev pub tallies_at : List (List ℕ) → List Found → List Tally
tallies_at keys rows = map (λ k. tally_at k rows) keys

-- a row noted in the tally at a place
abbrev pub noted_at : Found → Option ℕ → List Tally → List Tally
noted_at f (Some at) ts = slice_set ts at (noted f.places (slice_index_or ts at nothing))
noted_at f None ts = ts
