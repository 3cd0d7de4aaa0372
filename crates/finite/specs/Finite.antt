-- Finite sets of keys, and the rising lists that show them. A set is a finite map with nothing at each key, so two sets
-- with the same members are equal, and a set has its members in one order.
--     Finite R, code      sets of keys in the order R; their code, from that of the keys
--     empty, has, adds, adds_each, subset, IsSubset      the words of sets
--     of_list, listing, of_rising      the set of a list's keys; the members in rising order; the set that a rising list shows
--     IsRising R ks      each key of ks is below those after it
use Rattle.std.specs.Prelude.{◌≡◌, Bool, true, T, List, [], ◌∷◌, map}
use base.Stored.{Coded, coded_unit}
use Rattle.std.specs.List.{list_all}
use Rattle.std.specs.declared.cmp.Ordering.{Ordering}
use Rattle.std.specs.FinMap as fin

abbrev pub Finite : {K : Type 0} → (K → K → Ordering) → Type 0
Finite R = fin.FinMap R (Unit {0})

-- the keys as entries of a map with nothing at each key
abbrev pub marked : {K : Type 0} → List K → List (K × Unit {0})
marked ks = map (λ k. (k, tt)) ks

-- each key is below those after it, so no key stands twice
abbrev pub IsRising : {K : Type 0} → (K → K → Ordering) → List K → Type 0
IsRising R ks = T (fin.is_sorted R (marked ks))

module _ {K : Type 0} {R : K → K → Ordering} where
  abbrev pub code : Coded K → Coded (Finite R)
  code k = fin.code k coded_unit

  -- the set with no member
  abbrev pub empty : Finite R
  empty = fin.empty

  -- whether k ties with a member
  abbrev pub has : Finite R → K → Bool
  has s k = fin.contains_key s k

  -- s with k. Where k ties with a member, it is s
  abbrev pub adds : Finite R → K → Finite R
  adds s k = fin.insert s k tt

  -- s with each key of a list
  abbrev pub adds_each : Finite R → List K → Finite R
  adds_each s [] = s
  adds_each s (k ∷ ks) = adds_each (adds s k) ks

  -- the set of the keys of a list
  abbrev pub of_list : List K → Finite R
  of_list ks = adds_each empty ks

  -- the members in rising order
  abbrev pub listing : Finite R → List K
  listing s = fin.keys s

  -- the set whose members are the keys of a rising list
  abbrev pub of_rising : List K → Finite R
  of_rising ks = fin.from_sorted (marked ks)

  -- whether t has each member of s
  abbrev pub subset : Finite R → Finite R → Bool
  subset s t = list_all (has t) (listing s)

  -- each member of s is a member of t
  abbrev pub IsSubset : Finite R → Finite R → Type 0
  IsSubset s t = (k : K) → has s k ≡ true → has t k ≡ true
