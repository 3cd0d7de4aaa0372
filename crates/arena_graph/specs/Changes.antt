-- Lists of numbers that differ by a list of numbers, which come or go, as oddness tells: in a list without repeats, a number is a member
-- just where an odd number of elements is this number.
use Rattle.std.specs.Prelude.{◌≡◌, ℕ, Bool, true, false, not, List, [], ◌∷◌}

-- just one of both is true
abbrev pub differ : Bool → Bool → Bool
differ true b = not b
differ false b = b

-- an odd number of elements passes the test
abbrev pub is_odd : {X : Type 0} → (X → Bool) → List X → Bool
is_odd p [] = false
is_odd p (x ∷ xs) = differ (p x) (is_odd p xs)

-- an odd number instead of an even one, or an even one instead of an odd one, passes a test in the list `new` as against the list `old`
-- just where an odd number of the changes passes it
abbrev pub AreChanges : List ℕ → List ℕ → List ℕ → Type 0
AreChanges changes old new = (p : ℕ → Bool) → is_odd p new ≡ differ (is_odd p old) (is_odd p changes)
