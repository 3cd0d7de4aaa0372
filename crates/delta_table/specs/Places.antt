-- Sets of places in a list, as numbers: the bit of a place is set where the place is in the set.
--     has_place, lacks_place      whether a place is in a set, and whether it isn't
--     kept_at      the elements of a list whose places pass a test
--     placed      the sublists of a list with the places of their elements
use Rattle.std.specs.Prelude.{ℕ, ◌+◌, ◌^◌, Bool, not, ◌==◌, if◌then◌else◌, List, [], ◌∷◌, ◌++◌, map, bit_or}
use Rattle.std.specs.Int.{bit_at}

-- whether a place is in a set of places
unfoldable pub has_place : ℕ → ℕ → Bool
has_place places k = bit_at places k == 1

unfoldable pub lacks_place : ℕ → ℕ → Bool
lacks_place places k = not (has_place places k)

-- the elements whose places pass a test, where the first element is at place k
abbrev pub kept_at : {A : Type 0} → (ℕ → Bool) → ℕ → List A → List A
kept_at p k [] = []
kept_at p k (x ∷ xs) = if p k then x ∷ kept_at p (k + 1) xs else kept_at p (k + 1) xs

-- the sublists of a list with the places of their elements, where the first element of the list is at place k
abbrev pub placed : {A : Type 0} → ℕ → List A → List (List A × ℕ)
placed k [] = ([], 0) ∷ []
placed k (x ∷ xs) = map (λ s. (x ∷ s.0, bit_or (2 ^ k) s.1)) (placed (k + 1) xs) ++ placed (k + 1) xs
