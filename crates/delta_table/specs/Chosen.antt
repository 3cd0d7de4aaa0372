-- What is made of a set of values: its patterns and what they leave over of each item, and its cost.
--     zipped      what a function gives of the elements of two lists side by side
--     raised      numbers with one number added to each
--     pattern_of_places, patterns_by      the patterns of the rows that pass a test
--     left_outside, rest_outside, share      what is left of an item, and what it costs
--     patterns_found, made_patterns, made_rest, made_cost      the patterns, the rest and the cost of a set of values by the rows of the items
--     patterns_at, patterns_by_numbers, left_at, rest_at, cost_at      the same of a set of numbers
--     made_candidate      the candidate of a set of numbers
--     rest_item, candidate_of      an item with the rest of its tuples; the candidate
use Rattle.std.specs.Prelude.{ℕ, ◌+◌, ◌*◌, Bool, ◌==◌, if◌then◌else◌, List, [], ◌∷◌, map, length, sum, Option, option_map}
use Rattle.std.specs.List.{filter, filter_map}
use Rattle.fol.specs.Syntax.{Terms}
use Rattle.fol.specs.Order.{terms_cmp}
use Rattle.finite.specs.Finite as set
use Rattle.herbrand_laws.specs.Herbrand.{Item, quantifiers}
use Rattle.herbrand_laws.specs.Patterns.{TermSet, Row, delta}
use Rattle.herbrand_laws.specs.Candidates.{same_terms, patterns, rest, cost}
use Rattle.numbered_terms.specs.NumberSets.{same_numbers}
use Rattle.numbered_terms.specs.Numbered.{set_at}
use Rattle.delta_table.specs.declared.founds.Found.{Found}
use Rattle.delta_table.specs.declared.tallies.Tally.{Tally}
use Rattle.delta_table.specs.declared.candidates.Candidate.{Candidate}
use Rattle.delta_table.specs.declared.tables.Table.{Table}
use Rattle.delta_table.specs.Places.{has_place, lacks_place, kept_at}
use Rattle.delta_table.specs.FoundRows.{PlacedRow, tally_of, tally_at}

-- what a function gives of the elements of two lists side by side
abbrev pub zipped : {A B C : Type 0} → (A → B → C) → List A → List B → List C
zipped f [] ys = []
zipped f (x ∷ xs) [] = []
zipped f (x ∷ xs) (y ∷ ys) = f x y ∷ zipped f xs ys

-- numbers with one number added to each
abbrev pub raised : ℕ → List ℕ → List ℕ
raised more ns = map (λ n. n + more) ns

-- the pattern of the tuples at places
abbrev pub pattern_of_places : List Terms → ℕ → Option Terms
pattern_of_places tuples places = option_map (λ (r : Row). r.pattern) (delta (kept_at (has_place places) 0 tuples))

-- the patterns of the rows that pass a test, by their places
abbrev pub patterns_by : {R : Type 0} → List Terms → (R → Bool) → (R → ℕ) → List R → List Terms
patterns_by tuples p places rs = filter_map (λ r. pattern_of_places tuples (places r)) (filter p rs)

-- patterns in rising order
abbrev pub in_order : List Terms → List Terms
in_order ps = set.listing (set.adds_each (set.empty {R = terms_cmp}) ps)

-- the tuples of an item that aren't at places: none of a formula without quantifiers
abbrev pub left_outside : ℕ → Item → List Terms
left_outside places i = if quantifiers i == 0 then [] else kept_at (lacks_place places) 0 i.tuples

-- the item with these tuples
abbrev pub rest_outside : ℕ → Item → Item
rest_outside places i = record { side = i.side; formula = i.formula; tuples = left_outside places i }

-- a quantifier inference for each quantifier of an item, of each row of a tally and of each tuple that isn't among those of the tally
abbrev pub share : Item → Tally → ℕ
share i t = quantifiers i * (t.rows + length (kept_at (lacks_place t.places) 0 i.tuples))

-- the patterns of the rows that have a set of values
abbrev pub patterns_found : List Terms → TermSet → List PlacedRow → List Terms
patterns_found tuples w fs = patterns_by tuples (λ f. same_terms f.values w) (λ f. f.places) fs

-- the patterns of an item, in rising order
abbrev pub made_patterns : TermSet → Item → List PlacedRow → List Terms
made_patterns w i fs = in_order (patterns_found i.tuples w fs)

-- the item with the tuples that its rows with these values don't have: none of a formula without quantifiers
abbrev pub made_rest : TermSet → Item → List PlacedRow → Item
made_rest w i fs = rest_outside (tally_of w fs).places i

-- how many quantifier inferences the proof with the cut has, by the rows of the items
abbrev pub made_cost : TermSet → List Item → List (List PlacedRow) → ℕ
made_cost w items fss = 1 + length (set.listing w) + sum (zipped (λ i fs. share i (tally_of w fs)) items fss)

-- the patterns of the rows that have a set of numbers
abbrev pub patterns_at : List Terms → List ℕ → List Found → List Terms
patterns_at tuples k rows = patterns_by tuples (λ f. same_numbers f.values k) (λ f. f.places) rows

-- those of an item, in rising order
abbrev pub patterns_by_numbers : List ℕ → Item → List Found → List Terms
patterns_by_numbers k i rows = in_order (patterns_at i.tuples k rows)

-- the tuples of an item that its rows with these numbers don't have: none of a formula without quantifiers
abbrev pub left_at : List ℕ → Item → List Found → List Terms
left_at k i rows = left_outside (tally_at k rows).places i

-- the item with these tuples
abbrev pub rest_at : List ℕ → Item → List Found → Item
rest_at k i rows = rest_outside (tally_at k rows).places i

-- how many quantifier inferences the proof with the cut has, by the rows of the items
abbrev pub cost_at : List ℕ → List Item → List (List Found) → ℕ
cost_at k items tables = 1 + length k + sum (zipped (λ i rows. share i (tally_at k rows)) items tables)

-- the candidate of a set of numbers by the rows of a table
abbrev pub made_candidate : Table → List ℕ → List Item → ℕ → Candidate
made_candidate t k items cost = record { values = set_at t.cells k; patterns = zipped (patterns_by_numbers k) items t.rows.items; rest = zipped (rest_at k) items t.rows.items; cost = cost }

-- the item with its rest
abbrev pub rest_item : ℕ → TermSet → Item → Item
rest_item width w i = record { side = i.side; formula = i.formula; tuples = rest width w i }

-- the candidate of a set of values
abbrev pub candidate_of : ℕ → List Item → TermSet → Candidate
candidate_of width items w = record { values = w; patterns = map (patterns width w) items; rest = map (rest_item width w) items; cost = cost width items w }
