-- The first faulty switch among lines, as more lines follow.
use Rattle.std.proofs.Common.{◌≡◌, ℕ, ◌+◌, Bool, true, false, cond, List, [], ◌∷◌, ◌++◌, length, Some, None, refl, sym, ap, ◌∙◌, arith}
use Rattle.std.specs.List.{position_from}

some_is_not_none : (n : ℕ) → Some n ≡ None → ⊥
some_is_not_none n e = cc

-- where none passes, the search goes on behind
pub none_before : {X : Type 0} (p : X → Bool) (i j : ℕ) (xs ys : List X) → j ≡ i + length xs → position_from p i xs ≡ None
    → position_from p i (xs ++ ys) ≡ position_from p j ys
none_before p i j [] ys is none = let same : i ≡ j = omega (arith, is) in ap (λ (n : ℕ). position_from p n ys) same
none_before p i j (x ∷ xs) ys is none = step (p x) (λ rest. none_before p (i + 1) j xs ys (omega (arith, is)) rest) none
  where
    step : (t : Bool) → (position_from p (i + 1) xs ≡ None → position_from p (i + 1) (xs ++ ys) ≡ position_from p j ys)
        → cond t (Some i) (position_from p (i + 1) xs) ≡ None → cond t (Some i) (position_from p (i + 1) (xs ++ ys)) ≡ position_from p j ys
    step true behind found = absurd (some_is_not_none i found)
    step false behind rest = behind rest

-- what is found isn't changed by what follows
pub found_before : {X : Type 0} (p : X → Bool) (i n : ℕ) (xs ys : List X) → position_from p i xs ≡ Some n → position_from p i (xs ++ ys) ≡ Some n
found_before p i n [] ys found = absurd (some_is_not_none n (sym found))
found_before p i n (x ∷ xs) ys found = step (p x) (found_before p (i + 1) n xs ys) found
  where
    step : (t : Bool) → (position_from p (i + 1) xs ≡ Some n → position_from p (i + 1) (xs ++ ys) ≡ Some n)
        → cond t (Some i) (position_from p (i + 1) xs) ≡ Some n → cond t (Some i) (position_from p (i + 1) (xs ++ ys)) ≡ Some n
    step true behind here = here
    step false behind rest = behind rest

-- one line more
pub none_yet : {X : Type 0} (p : X → Bool) (i : ℕ) (xs : List X) (x : X) → position_from p i xs ≡ None → p x ≡ false
    → position_from p i (xs ++ x ∷ []) ≡ None
none_yet p i xs x none passes =
    none_before p i (i + length xs) xs (x ∷ []) refl none ∙ ap (λ (t : Bool). cond t (Some (i + length xs)) None) passes

pub found_last : {X : Type 0} (p : X → Bool) (i n : ℕ) (xs : List X) (x : X) → n ≡ i + length xs → position_from p i xs ≡ None → p x ≡ true
    → position_from p i (xs ++ x ∷ []) ≡ Some n
found_last p i n xs x is none passes = none_before p i n xs (x ∷ []) is none ∙ ap (λ (t : Bool). cond t (Some n) None) passes
