-- Numbers in sets of bits: after one was added or taken out, and the least one of two sets.
use Rattle.std.proofs.Common.{◌≡◌, ◌≢◌, ℕ, zero, suc, ◌+◌, ◌*◌, ◌/◌, ◌%◌, ◌^◌, ◌<◌, ◌≤◌, Bool, true, false, not, ◌&&◌, ◌||◌, eqb, min, List, length, get_or, set, replicate, w64, inl, inr, refl, sym, ap, ◌∙◌, arith}
use Rattle.std.specs.Prelude.{bit_and, bit_or}
use Rattle.std.specs.Int.{bit_at, bit_not, trailing_zeros}
use Rattle.std.proofs.lemmas.Bool.{cases_eq, cases_lt, eq-eqb, ne_eqb}
use Rattle.std.proofs.lemmas.List.{get_or-set_same, get_or-set_other, get_or_past, get_or-replicate, length-replicate}
use Rattle.std.proofs.lemmas.Nat.Bits.{bit_at-zero, bit_at_and, bit_at_set_same, bit_at_set_other, bit_at_clear_same, bit_at_clear_other, bit_at-trailing_zeros, bit_at-lt, and_pow}
use Rattle.std.proofs.lemmas.Nat.{one_shl, pow_pos}
use Rattle.std.proofs.lemmas.Bool.Decides.{nat_tests}
use Rattle.prop_search.specs.Bits.{has_number}

-- the bit of a number
abbrev pub bit_of : List ℕ → ℕ → ℕ
bit_of words n = bit_at (get_or words (n / 64) 0) (n % 64)

pub by_bit : (words : List ℕ) (n : ℕ) → has_number words n ≡ eqb (bit_of words n) 1
unfolding has_number
by_bit words n = refl

-- numbers past the words are in no set
pub past_words : (words : List ℕ) (n : ℕ) → 64 * length words ≤ n → has_number words n ≡ false
past_words words n past =
    let over : length words ≤ n / 64 = omega arith in
    by_bit words n ∙ ap (λ b. eqb b 1) (ap (λ w. bit_at w (n % 64)) (get_or_past words (n / 64) 0 over) ∙ bit_at-zero (n % 64))

module _ (words : List ℕ) (k w : ℕ) (within : k / 64 < length words) where
  -- the set after a change of the word of k
  abbrev after : List ℕ
  after = set words (k / 64) w

  -- k is there by its bit
  changed_same : has_number after k ≡ eqb (bit_at w (k % 64)) 1
  changed_same = by_bit after k ∙ ap (λ v. eqb (bit_at v (k % 64)) 1) (get_or-set_same words (k / 64) w 0 within)

  -- other numbers are there as before, where the other bits are
  changed_other : ((i : ℕ) → i < 64 → i ≢ k % 64 → bit_at w i ≡ bit_at (get_or words (k / 64) 0) i) → (n : ℕ) → n ≢ k → has_number after n ≡ has_number words n
  changed_other others n other =
      by_bit after n
      ∙ ap (λ b. eqb b 1)
      (elim (cases_eq (n / 64) (k / 64)) [
        | inl e ↦
            let apart : n % 64 ≢ k % 64 = λ h. other (omega arith) in
            let small : n % 64 < 64 = omega arith in
            ap (λ i. bit_at (get_or after i 0) (n % 64)) e
            ∙ ap (λ v. bit_at v (n % 64)) (get_or-set_same words (k / 64) w 0 within)
            ∙ others (n % 64) small apart
            ∙ ap (λ i. bit_at (get_or words i 0) (n % 64)) (sym e)
        | inr e ↦ ap (λ v. bit_at v (n % 64)) (get_or-set_other words (k / 64) (n / 64) w 0 e)
      ])
      ∙ sym (by_bit words n)

module _ (words : List ℕ) (k : ℕ) (within : k / 64 < length words) where
  low : k % 64 < 64
  low = omega arith

  -- the set with one more number
  pub inserted : (n : ℕ) → has_number (set words (k / 64) (bit_or (get_or words (k / 64) 0) (1 * 2 ^ (k % 64) % 2 ^ 64))) n ≡ (eqb n k || has_number words n)
  inserted n =
      let w : ℕ = bit_or (get_or words (k / 64) 0) (1 * 2 ^ (k % 64) % 2 ^ 64) in
      elim (cases_eq n k) [
        | inl e ↦
            ap (has_number (set words (k / 64) w)) e ∙ changed_same words k w within ∙ ap (λ b. eqb b 1) (bit_at_set_same w64 (get_or words (k / 64) 0) (k % 64) low)
            ∙ sym (ap (λ b. b || has_number words n) (eq-eqb n k e))
        | inr e ↦
            changed_other words k w within (λ i small apart. bit_at_set_other w64 (get_or words (k / 64) 0) (k % 64) low i apart) n e
            ∙ sym (ap (λ b. b || has_number words n) (ne_eqb n k e))
      ]

  -- the set without a number
  pub removed : (n : ℕ) → has_number (set words (k / 64) (bit_and (get_or words (k / 64) 0) (bit_not w64 (1 * 2 ^ (k % 64) % 2 ^ 64)))) n ≡ (not (eqb n k) && has_number words n)
  removed n =
      let w : ℕ = bit_and (get_or words (k / 64) 0) (bit_not w64 (1 * 2 ^ (k % 64) % 2 ^ 64)) in
      elim (cases_eq n k) [
        | inl e ↦
            ap (has_number (set words (k / 64) w)) e ∙ changed_same words k w within ∙ ap (λ b. eqb b 1) (bit_at_clear_same w64 (get_or words (k / 64) 0) (k % 64) low)
            ∙ sym (ap (λ b. not b && has_number words n) (eq-eqb n k e))
        | inr e ↦
            changed_other words k w within (λ i small apart. bit_at_clear_other w64 (get_or words (k / 64) 0) (k % 64) low i small apart) n e
            ∙ sym (ap (λ b. not b && has_number words n) (ne_eqb n k e))
      ]

-- numbers that are in two sets

abbrev pub in_both : List ℕ → List ℕ → ℕ → Bool
in_both xs ys n = has_number xs n && has_number ys n

-- the bits of a word of both
both_bits : (xs ys : List ℕ) (n w : ℕ) → w ≡ bit_and (get_or xs (n / 64) 0) (get_or ys (n / 64) 0) → in_both xs ys n ≡ eqb (bit_at w (n % 64)) 1
both_bits xs ys n w e =
    let first = bit_at-lt (get_or xs (n / 64) 0) (n % 64) in
    let second = bit_at-lt (get_or ys (n / 64) 0) (n % 64) in
    let meet = bit_at_and (get_or xs (n / 64) 0) (get_or ys (n / 64) 0) (n % 64) in
    (λ i. by_bit xs n i && by_bit ys n i)
    ∙ sym (ap (λ v. eqb (bit_at v (n % 64)) 1) e ∙ ap (λ b. eqb b 1) meet ∙ least_of _ _ first second)
  where
    least_of : (a b : ℕ) → a < 2 → b < 2 → eqb (min a b) 1 ≡ (eqb a 1 && eqb b 1)
    least_of a b l m = grind (arith, nat_tests)

module _ (xs ys : List ℕ) (i w : ℕ) (is : w ≡ bit_and (get_or xs i 0) (get_or ys i 0)) where
  -- a word with no bit of both
  pub none_here : w ≡ 0 → (n : ℕ) → n / 64 ≡ i → in_both xs ys n ≡ false
  none_here e n here =
      both_bits xs ys n w (is ∙ ap (λ j. bit_and (get_or xs j 0) (get_or ys j 0)) (sym here)) ∙ ap (λ b. eqb b 1) (ap (λ v. bit_at v (n % 64)) e ∙ bit_at-zero (n % 64))

  module _ (some : 0 < w) (small : w < 2 ^ 64) where
    abbrev place : ℕ
    place = 64 * i + trailing_zeros w64 w

    -- the lowest bit of both is that of a number in both
    pub first_here : in_both xs ys place ≡ true
    first_here =
        let h = bit_at-trailing_zeros w64 w some small in
        let low : trailing_zeros w64 w < 64 = h.0 in
        let word : place / 64 ≡ i = omega arith in
        let bit : place % 64 ≡ trailing_zeros w64 w = omega arith in
        both_bits xs ys place w (is ∙ ap (λ j. bit_and (get_or xs j 0) (get_or ys j 0)) (sym word))
        ∙ ap (λ b. eqb b 1) (ap (bit_at w) bit ∙ h.1)

    -- and no smaller one is, where none is in the words before
    pub none_below : ((n : ℕ) → n < 64 * i → in_both xs ys n ≡ false) → (n : ℕ) → n < place → in_both xs ys n ≡ false
    none_below before n below =
        let h = bit_at-trailing_zeros w64 w some small in
        elim (cases_lt n (64 * i)) [
          | inl l ↦ before n l
          | inr l ↦
              let low : trailing_zeros w64 w < 64 = h.0 in
              let word : n / 64 ≡ i = omega arith in
              let less : n % 64 < trailing_zeros w64 w = omega arith in
              both_bits xs ys n w (is ∙ ap (λ j. bit_and (get_or xs j 0) (get_or ys j 0)) (sym word))
              ∙ ap (λ b. eqb b 1) (h.2 (n % 64) less)
        ]

-- the set of no number

pub none_in_zeros : (count n : ℕ) → has_number (replicate count 0) n ≡ false
none_in_zeros count n =
    elim (cases_lt (n / 64) count) [
      | inl l ↦ by_bit (replicate count 0) n ∙ ap (λ b. eqb b 1) (ap (λ w. bit_at w (n % 64)) (get_or-replicate count (n / 64) 0 0 l) ∙ bit_at-zero (n % 64))
      | inr l ↦ past_words (replicate count 0) n (omega (arith, length-replicate {A = ℕ} count 0))
    ]

-- the test of a bit

pub tested_bit : (words : List ℕ) (n : ℕ) → not (eqb (bit_and (get_or words (n / 64) 0) (1 * 2 ^ (n % 64) % 2 ^ 64)) 0) ≡ has_number words n
tested_bit words n =
    let low : n % 64 < 64 = omega arith in
    ap (λ m. not (eqb (bit_and (get_or words (n / 64) 0) m) 0)) (one_shl (n % 64) 64 low)
    ∙ ap (λ m. not (eqb m 0)) (and_pow (get_or words (n / 64) 0) (n % 64))
    ∙ by_cases (bit_of words n) (2 ^ (n % 64)) (bit_at-lt (get_or words (n / 64) 0) (n % 64)) (pow_pos (n % 64))
    ∙ sym (by_bit words n)
  where
    by_cases : (b p : ℕ) → b < 2 → 0 < p → not (eqb (b * p) 0) ≡ eqb b 1
    by_cases zero p l some = grind (arith, nat_tests)
    by_cases (suc zero) p l some = grind (arith, nat_tests)
    by_cases (suc (suc b)) p l some = absurd (omega arith)

-- numbers past the words are in neither
pub past_both : (xs ys : List ℕ) (n : ℕ) → 64 * length xs ≤ n → in_both xs ys n ≡ false
past_both xs ys n past = ap (λ b. b && has_number ys n) (past_words xs n past)
