-- A text is a numbered variable exactly where it is `V` with the decimal text of a number below 2 ^ 64.
use Rattle.std.proofs.Common.{◌≡◌, ℕ, ◌+◌, ◌-◌, ◌*◌, ◌/◌, ◌%◌, ◌^◌, ◌<◌, ◌≤◌, Bool, true, false, ltb, ◌==◌, ◌&&◌, if◌then◌else◌, List, [], ◌∷◌, ◌++◌, get_or, Option, Some, None, IfSome, IfNone, refl, sym, ◌∙◌, ap, subst, append_assoc, append-nil, inl, inr, arith}
use Rattle.std.specs.Char.{is_ascii_digit}
use Rattle.std.specs.Fmt.{decimal}
use Rattle.std.proofs.lemmas.Bool.{cases_lt}
use Rattle.std.proofs.lemmas.Bool.Decides.{nat_tests}
use Rattle.std.proofs.lemmas.Fmt.{decimal_digit, decimal_step, decimal_by_steps, first_decimal}
use Rattle.fol.specs.Numbered.{digits_after, number_of_digits, number_of_text}

-- a choice that answers a number took its first side
some_if : (test : Bool) (o : Option ℕ) (n : ℕ) → (if test then o else None) ≡ Some n → (test ≡ true) × (o ≡ Some n)
some_if true o n is = (refl, is)
some_if false o n is = cc

-- the test of one digit
digit_facts : (b v w : ℕ) → (is_ascii_digit b && ltb v w) ≡ true → (48 ≤ b) × (b ≤ 57) × (v < w)
digit_facts b v w is = (grind (arith, nat_tests), grind (arith, nat_tests), grind (arith, nat_tests))

digit_test : (b v w : ℕ) → 48 ≤ b → b ≤ 57 → v < w → (is_ascii_digit b && ltb v w) ≡ true
digit_test b v w low high fits = grind (arith, nat_tests)

-- one digit is read
record TakesDigit (k b : ℕ) (bs : List ℕ) (n : ℕ) : Type 0 where
  low : 48 ≤ b
  high : b ≤ 57
  fits : k * 10 + (b - 48) < 2 ^ 64
  rest : digits_after (k * 10 + (b - 48)) bs ≡ Some n

digit_taken : (k b : ℕ) (bs : List ℕ) (n : ℕ) → digits_after k (b ∷ bs) ≡ Some n → TakesDigit k b bs n
digit_taken k b bs n is =
    let both = some_if (is_ascii_digit b && ltb (k * 10 + (b - 48)) (2 ^ 64)) (digits_after (k * 10 + (b - 48)) bs) n is in
    let facts = digit_facts b (k * 10 + (b - 48)) (2 ^ 64) both.0 in
    record { low = facts.0; high = facts.1; fits = facts.2; rest = both.1 }

take_digit : (k b : ℕ) (bs : List ℕ) → 48 ≤ b → b ≤ 57 → k * 10 + (b - 48) < 2 ^ 64 → digits_after k (b ∷ bs) ≡ digits_after (k * 10 + (b - 48)) bs
take_digit k b bs low high fits =
    ap (λ (t : Bool). if t then digits_after (k * 10 + (b - 48)) bs else None) (digit_test b (k * 10 + (b - 48)) (2 ^ 64) low high fits)

-- the decimal text of a number with one more digit
decimal_more : (k d : ℕ) → 0 < k → d < 10 → k * 10 + d < 2 ^ 64 → decimal (k * 10 + d) ≡ decimal k ++ ((48 + d) ∷ [])
decimal_more k d positive digit fits =
    let front : (k * 10 + d) / 10 ≡ k = omega arith in
    let last : (k * 10 + d) % 10 ≡ d = omega arith in
    decimal_step (k * 10 + d) (omega arith) fits ∙ (λ i. decimal (front i) ++ ((48 + last i) ∷ []))

-- what is read after a number is written after it
text_after : (bs : List ℕ) (k n : ℕ) → 0 < k → k < 2 ^ 64 → digits_after k bs ≡ Some n → (decimal k ++ bs ≡ decimal n) × (n < 2 ^ 64)
text_after [] k n positive fits is =
    let same : k ≡ n = cc in (append-nil (decimal k) ∙ ap decimal same, subst (λ (m : ℕ). m < 2 ^ 64) same fits)
text_after (b ∷ bs) k n positive fits is =
    let digit = digit_taken k b bs n is in
    let rest = text_after bs (k * 10 + (b - 48)) n (omega arith) digit.fits digit.rest in
    let byte : b ≡ 48 + (b - 48) = omega (arith, digit.low) in
    let more = decimal_more k (b - 48) positive (omega (arith, digit.high)) digit.fits in
    let moved : decimal k ++ (b ∷ bs) ≡ (decimal k ++ (b ∷ [])) ++ bs = sym (append_assoc (decimal k) (b ∷ []) bs) in
    let read : (decimal k ++ (b ∷ [])) ++ bs ≡ decimal (k * 10 + (b - 48)) ++ bs =
    (λ i. (decimal k ++ (byte i ∷ [])) ++ bs) ∙ ap (λ (ds : List ℕ). ds ++ bs) (sym more) in
    (moved ∙ (read ∙ rest.0), rest.1)

-- the text of one digit
one_digit : (b n : ℕ) → 48 ≤ b → b ≤ 57 → b - 48 ≡ n → b ∷ [] ≡ decimal n
one_digit b n low high is =
    let byte : b ≡ 48 + n = omega arith in (λ i. byte i ∷ []) ∙ sym (decimal_digit n (omega arith))

-- the digits that have a number are its decimal text
digits_of_number : (ds : List ℕ) (n : ℕ) → number_of_digits ds ≡ Some n → (ds ≡ decimal n) × (n < 2 ^ 64)
digits_of_number [] n is = cc
digits_of_number (b ∷ []) n is =
    let digit = digit_taken 0 b [] n is in
    let value : 0 * 10 + (b - 48) ≡ n = cc digit.rest in
    (one_digit b n digit.low digit.high (omega (arith, value)), subst (λ (m : ℕ). m < 2 ^ 64) value digit.fits)
digits_of_number (b ∷ c ∷ bs) n is =
    let both = some_else (b == 48) (digits_after 0 (b ∷ c ∷ bs)) n is in
    let digit = digit_taken 0 b (c ∷ bs) n both.1 in
    let after = text_after (c ∷ bs) (0 * 10 + (b - 48)) n (omega (arith, digit.low, differs b 48 both.0)) digit.fits digit.rest in
    let first = one_digit b (0 * 10 + (b - 48)) digit.low digit.high (omega arith) in
    (ap (λ (ds : List ℕ). ds ++ (c ∷ bs)) first ∙ after.0, after.1)
  where
    some_else : (test : Bool) (o : Option ℕ) (n : ℕ) → (if test then None else o) ≡ Some n → (test ≡ false) × (o ≡ Some n)
    some_else true o n is = cc
    some_else false o n is = (refl, is)

    differs : (a b : ℕ) → (a == b) ≡ false → a ≡ b → ⊥
    differs a b is e = grind (arith, nat_tests)

-- a text that has a number is `V` with the decimal text of it
pub text_of_number : (x : List ℕ) (n : ℕ) → number_of_text x ≡ Some n → (x ≡ 86 ∷ decimal n) × (n < 2 ^ 64)
text_of_number [] n is = cc
text_of_number (b ∷ bs) n is =
    let both = some_if (b == 86) (number_of_digits bs) n is in
    let digits = digits_of_number bs n both.1 in
    let letter = same_byte b 86 both.0 in
    (λ i. letter i ∷ digits.0 i, digits.1)
  where
    same_byte : (a b : ℕ) → (a == b) ≡ true → a ≡ b
    same_byte a b is = grind (arith, nat_tests)

-- digits are read one after the other
digits_after-append : (ds : List ℕ) (k m b : ℕ) → digits_after k ds ≡ Some m → digits_after k (ds ++ (b ∷ [])) ≡ digits_after m (b ∷ [])
digits_after-append [] k m b is = let same : k ≡ m = cc in ap (λ (j : ℕ). digits_after j (b ∷ [])) same
digits_after-append (c ∷ cs) k m b is =
    let digit = digit_taken k c cs m is in
    take_digit k c (cs ++ (b ∷ [])) digit.low digit.high digit.fits ∙ digits_after-append cs (k * 10 + (c - 48)) m b digit.rest

-- the decimal text of a number is read as that number
IsReadBack : ℕ → List ℕ → Type 0
IsReadBack n ds = n < 2 ^ 64 → digits_after 0 ds ≡ Some n

last_digit : (k b n : ℕ) → 48 ≤ b → b ≤ 57 → k * 10 + (b - 48) ≡ n → n < 2 ^ 64 → digits_after k (b ∷ []) ≡ Some n
last_digit k b n low high is fits =
    take_digit k b [] low high (subst (λ (m : ℕ). m < 2 ^ 64) (sym is) fits) ∙ ap (λ (m : ℕ). Some m) is

read_back : (n : ℕ) → n < 2 ^ 64 → digits_after 0 (decimal n) ≡ Some n
unfolding IsReadBack
read_back n fits = decimal_by_steps IsReadBack one more n fits fits
  where
    one : (n : ℕ) → n < 10 → IsReadBack n ((48 + n) ∷ [])
    one n small fits = last_digit 0 (48 + n) n (omega arith) (omega arith) (omega arith) fits

    more : (n : ℕ) (ds : List ℕ) → 10 ≤ n → IsReadBack (n / 10) ds → IsReadBack n (ds ++ ((48 + n % 10) ∷ []))
    more n ds large front fits =
        digits_after-append ds 0 (n / 10) (48 + n % 10) (front (omega arith))
        ∙ last_digit (n / 10) (48 + n % 10) n (omega arith) (omega arith) (omega arith) fits

-- digits that don't begin with 0 have the number that is read
number_of_leading : (ds : List ℕ) → 48 < get_or ds 0 0 → number_of_digits ds ≡ digits_after 0 ds
number_of_leading [] leads = absurd (omega arith)
number_of_leading (b ∷ []) leads = refl
number_of_leading (b ∷ c ∷ bs) leads =
    let test : (b == 48) ≡ false = grind (arith, nat_tests) in
    ap (λ (t : Bool). if t then None else digits_after 0 (b ∷ c ∷ bs)) test

number_of_decimal : (n : ℕ) → n < 2 ^ 64 → number_of_digits (decimal n) ≡ Some n
number_of_decimal n fits = elim (cases_lt 0 n) [
  | inl positive ↦ number_of_leading (decimal n) (first_decimal n positive fits) ∙ read_back n fits
  | inr none ↦ let zero_is : 0 ≡ n = omega arith in subst (λ (m : ℕ). number_of_digits (decimal m) ≡ Some m) zero_is (ap number_of_digits (decimal_digit 0 (omega arith)))
]

-- `V` with the decimal text of a number below 2 ^ 64 has that number
pub number_of_numbered : (n : ℕ) → n < 2 ^ 64 → number_of_text (86 ∷ decimal n) ≡ Some n
number_of_numbered n fits = number_of_decimal n fits

-- the same as what a function answers of a text
pub some_numbered : (x : List ℕ) (o : Option ℕ) → o ≡ number_of_text x → IfSome o (λ n. x ≡ 86 ∷ decimal n)
some_numbered x None is = tt
some_numbered x (Some n) is = (text_of_number x n (sym is)).0

pub none_numbered : (x : List ℕ) (o : Option ℕ) → o ≡ number_of_text x → IfNone o ((n : ℕ) → n < 2 ^ 64 → x ≡ 86 ∷ decimal n → ⊥)
none_numbered x None is = λ n fits text. let found : None ≡ Some n = is ∙ (ap number_of_text text ∙ number_of_numbered n fits) in cc
none_numbered x (Some n) is = tt
