-- Where a key stands in a rising list, or would stand.
use Rattle.std.specs.Prelude.{ℕ, suc, List, [], ◌∷◌, Result, Ok, Err}
use Rattle.std.specs.declared.cmp.Ordering.{Ordering}
use Rattle.std.specs.declared.cmp.Ordering.TheVariants.{Less, Equal, Greater}

-- a place in the rest of a list, as a place in the whole list
abbrev pub later : Result ℕ ℕ → Result ℕ ℕ
later (Ok i) = Ok (suc i)
later (Err i) = Err (suc i)

-- the place by how the first element compares with the key, and the key's place in the rest
abbrev pub place_by : Ordering → Result ℕ ℕ → Result ℕ ℕ
place_by Less r = later r
place_by Equal r = Ok 0
place_by Greater r = Err 0

-- `Ok`: the place of the element that ties with k. `Err`: how many elements are below k, where none ties with it
abbrev pub place : {K : Type 0} → (K → K → Ordering) → K → List K → Result ℕ ℕ
place R k [] = Err 0
place R k (x ∷ xs) = place_by (R x k) (place R k xs)
