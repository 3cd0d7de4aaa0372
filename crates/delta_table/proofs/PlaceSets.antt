-- Sets of places as numbers.
use Rattle.std.proofs.Common.{◌≡◌, ℕ, ◌+◌, ◌*◌, ◌/◌, ◌%◌, ◌^◌, ◌<◌, Bool, true, false, ◌||◌, ◌==◌, if◌then◌else◌, max, drop, List, ◌∷◌, length, get_or, bit_and, bit_or, ap, ◌∙◌, arith}
use Rattle.std.specs.Int.{bit_at}
use Rattle.std.proofs.Math.Pow.{pow-lt}
use Rattle.std.proofs.Math.Nat.{mod-eq_of_lt}
use Rattle.std.proofs.lemmas.List.{at_drop_more}
use Rattle.std.proofs.lemmas.Nat.Bits.{shr_and_one, bit_at_or, bit_at-lt, same_from_bits}
use Rattle.std.proofs.lemmas.Bool.Decides.{nat_tests}
use Rattle.delta_table.specs.Places.{has_place, kept_at}

pub one_place : (places place : ℕ) → place < 64 → bit_or places (1 * 2 ^ place % 2 ^ 64) ≡ bit_or places (2 ^ place)
one_place places place h =
    let low : 2 ^ place < 2 ^ 64 = pow-lt {i = place} {j = 64} h in
    let one : 1 * 2 ^ place ≡ 2 ^ place = omega arith in
    ap (bit_or places) (ap (λ n. n % 2 ^ 64) one ∙ mod-eq_of_lt low)

pub place_bit : (places place : ℕ) → (bit_and (places / 2 ^ place) 1 == 1) ≡ has_place places place
unfolding has_place
place_bit places place = ap (λ n. n == 1) (shr_and_one places place)

-- a place is in either of two sets just where it is in both together
either_one : (a b : ℕ) → a < 2 → b < 2 → (max a b == 1) ≡ (a == 1 || b == 1)
either_one a b h g = grind (arith, nat_tests)

pub has-or : (a b k : ℕ) → has_place (bit_or a b) k ≡ (has_place a k || has_place b k)
unfolding has_place
has-or a b k = ap (λ n. n == 1) (bit_at_or a b k) ∙ either_one (bit_at a k) (bit_at b k) (bit_at-lt a k) (bit_at-lt b k)

-- sets together, whichever two come first
pub or_assoc : (a b c : ℕ) → bit_or (bit_or a b) c ≡ bit_or a (bit_or b c)
or_assoc a b c =
    same_from_bits _ _ (λ i.
    let left = bit_at_or (bit_or a b) c i in
    let first = bit_at_or a b i in
    let right = bit_at_or a (bit_or b c) i in
    let last = bit_at_or b c i in
    omega arith)

-- what is kept of the rest of a list, by its first element
module _ {A : Type 0} (p : ℕ → Bool) where
  pub kept_yes : (k : ℕ) (xs : List A) (d : A) → k < length xs → p k ≡ true → kept_at p k (drop k xs) ≡ get_or xs k d ∷ kept_at p (k + 1) (drop (k + 1) xs)
  kept_yes k xs d h e =
      at_drop_more (kept_at p k) xs k d h ∙ ap (λ b. if b then get_or xs k d ∷ kept_at p (k + 1) (drop (k + 1) xs) else kept_at p (k + 1) (drop (k + 1) xs)) e

  pub kept_no : (k : ℕ) (xs : List A) (d : A) → k < length xs → p k ≡ false → kept_at p k (drop k xs) ≡ kept_at p (k + 1) (drop (k + 1) xs)
  kept_no k xs d h e =
      at_drop_more (kept_at p k) xs k d h ∙ ap (λ b. if b then get_or xs k d ∷ kept_at p (k + 1) (drop (k + 1) xs) else kept_at p (k + 1) (drop (k + 1) xs)) e
