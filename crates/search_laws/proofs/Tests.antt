-- Tests and what follows from their answers.
use Rattle.std.proofs.Common.{◌≡◌, Bool, true, false, not, ◌&&◌, ◌||◌, refl, sym}

-- what follows in both cases of a test
pub split : {P : Type 0} (b : Bool) → (b ≡ true → P) → (b ≡ false → P) → P
split true f g = f refl
split false f g = g refl

-- a test doesn't have both answers
pub clash : {P : Type 0} (b : Bool) → b ≡ true → b ≡ false → P
clash true e h = cc
clash false e h = cc

-- tests that pass alike are equal
pub same_truth : (a b : Bool) → (a ≡ true → b ≡ true) → (b ≡ true → a ≡ true) → a ≡ b
same_truth true b f g = sym (f refl)
same_truth false true f g = g refl
same_truth false false f g = refl

-- what does not pass fails
pub fails : (b : Bool) → (b ≡ true → b ≡ false) → b ≡ false
fails true f = f refl
fails false f = refl

-- neither of two tests passes
pub neither : (a b : Bool) → a ≡ false → b ≡ false → (a || b) ≡ false
neither a b e h = rw (e, h) refl

-- a test whose negation passes fails
pub not_true : (b : Bool) → not b ≡ true → b ≡ false
not_true true e = cc
not_true false e = refl

-- the negation of a test that fails passes
pub not_false : (b : Bool) → b ≡ false → not b ≡ true
not_false true e = cc
not_false false e = refl

-- the parts of two conjunctions in another order
pub regrouped : (a b c d : Bool) → ((a && b) && (c && d)) ≡ ((a && c) && (b && d))
regrouped true true c d = refl
regrouped true false true d = refl
regrouped true false false d = refl
regrouped false b c d = refl

-- a test that is asked in both cases is asked once
pub distributed : (x u v : Bool) → ((x && u) || (x && v)) ≡ (x && (u || v))
distributed true u v = refl
distributed false u v = refl

-- nothing passes both a test and one that fails
pub and-false : (x : Bool) → false ≡ (x && false)
and-false true = refl
and-false false = refl

-- neither of two tests passes exactly where each fails
pub not-or : (a b : Bool) → not (a || b) ≡ (not a && not b)
not-or true b = refl
not-or false b = refl
