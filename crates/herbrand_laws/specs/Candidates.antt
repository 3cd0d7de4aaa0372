-- Candidates for a cut, after Hetzl, Leitsch, Reis and Weller (2014): sets of terms by which many tuples have few patterns.
--     sublists, IsSublist      the sublists of a list
--     rows_of, IsRowOf      the rows of an item
--     occurring      the sets of values that occur
--     patterns, is_covered, uncovered      what a set of values covers of an item, and what it doesn't
--     rest      the tuples that need instances of their own
--     cost, candidate_cmp, least, best      the candidate of least cost
use Rattle.std.specs.Prelude.{◌≡◌, ◌⊎◌, ℕ, suc, ◌+◌, ◌*◌, ◌≤◌, Bool, ◌&&◌, not, nat_lt, ◌==◌, if◌then◌else◌, List, [], ◌∷◌, ◌++◌, map, length, sum_by, Option, Some, None}
use Rattle.std.specs.List.{list_any, filter, filter_map, flat_map}
use Rattle.std.specs.Ordering.{eq_by_cmp, nat_cmp, ordering_then, min_by_ordering}
use Rattle.std.specs.Cmp.Lexicographic.{pointwise, slice_cmp}
use Rattle.std.specs.declared.cmp.Ordering.{Ordering}
use Rattle.fol.specs.Syntax.{Terms}
use Rattle.fol.specs.Order.{term_cmp, terms_cmp}
use Rattle.finite.specs.Finite as set
use Rattle.herbrand_laws.specs.Herbrand.{Item, quantifiers}
use Rattle.herbrand_laws.specs.Patterns.{put, TermSet, Row, delta}

-- the sublists of a list, each in its order
abbrev pub sublists : {A : Type 0} → List A → List (List A)
sublists [] = [] ∷ []
sublists (x ∷ xs) = map (λ ys. x ∷ ys) (sublists xs) ++ sublists xs

-- ys are elements of a list in its order, of which some may be left out
abbrev pub IsSublist : {A : Type 0} → List A → List A → Type 0
IsSublist ys [] = ys ≡ []
IsSublist {A} ys (x ∷ xs) = IsSublist ys xs ⊎ ((zs : List A) × (ys ≡ x ∷ zs) × IsSublist zs xs)

-- the rows of the sublists of two to `width` tuples of an item
abbrev pub rows_of : ℕ → Item → List Row
rows_of width i = filter_map delta (filter (λ uss. nat_lt 1 (length uss) && nat_lt (length uss) (suc width)) (sublists i.tuples))

-- the row is that of a sublist of two to `width` tuples of the item
pub record IsRowOf (width : ℕ) (i : Item) (r : Row) : Type 0 where
  pub tuples : List Terms
  pub sublist : IsSublist tuples i.tuples
  pub several : 2 ≤ length tuples
  pub few : length tuples ≤ width
  pub row : delta tuples ≡ Some r

-- whether two sets have the same terms
abbrev pub same_terms : TermSet → TermSet → Bool
same_terms v w = pointwise (eq_by_cmp term_cmp) (set.listing v) (set.listing w)

-- the sets of values that rows have: each is a candidate
abbrev pub occurring : ℕ → List Item → List TermSet
occurring width items = flat_map (λ i. map (λ r. r.values) (rows_of width i)) items

-- the patterns of an item whose rows have just these values, in rising order
abbrev pub patterns : ℕ → TermSet → Item → List Terms
patterns width w i = set.listing (set.adds_each (set.empty {R = terms_cmp}) (map (λ r. r.pattern) (filter (λ r. same_terms r.values w) (rows_of width i))))

-- whether a tuple is some pattern with some value
abbrev pub is_covered : List Terms → TermSet → Terms → Bool
is_covered ps w us = list_any (λ p. list_any (λ t. eq_by_cmp terms_cmp (put p t) us) (set.listing w)) ps

-- the tuples of an item that aren't covered
abbrev pub uncovered : ℕ → TermSet → Item → List Terms
uncovered width w i = filter (λ us. not (is_covered (patterns width w i) w us)) i.tuples

-- those of them that need instances of their own: none of a formula without quantifiers, which is its own instance
abbrev pub rest : ℕ → TermSet → Item → List Terms
rest width w i = if quantifiers i == 0 then [] else uncovered width w i

-- how many quantifier inferences the proof with the cut has
abbrev pub cost : ℕ → List Item → TermSet → ℕ
cost width items w = 1 + length (set.listing w) + sum_by (λ i. quantifiers i * (length (patterns width w i) + length (rest width w i))) items

-- candidates are ordered by cost, then by the number of values, and then by the rising list of these
abbrev pub candidate_cmp : ℕ → List Item → TermSet → TermSet → Ordering
candidate_cmp width items v w =
    ordering_then (nat_cmp (cost width items v) (cost width items w))
    (ordering_then (nat_cmp (length (set.listing v)) (length (set.listing w)))
    (slice_cmp term_cmp (set.listing v) (set.listing w)))

-- the least element of a list
abbrev pub lesser : {A : Type 0} → (A → A → Ordering) → A → Option A → A
lesser c x None = x
lesser c x (Some y) = min_by_ordering (c x y) x y

abbrev pub least : {A : Type 0} → (A → A → Ordering) → List A → Option A
least c [] = None
least c (x ∷ xs) = Some (lesser c x (least c xs))

-- the best candidate, if there is one
abbrev pub best : ℕ → List Item → Option TermSet
best width items = least (candidate_cmp width items) (occurring width items)
