-- What a number of the command line says of the parse of its text.
use Rattle.std.proofs.lemmas.Bool.Decides.{nat_tests}
use Rattle.std.proofs.Common.{ap, ◌≡◌, ◌≢◌, ℕ, ◌<◌, ◌≤◌, ◌^◌, ◌∷◌, ◌&&◌, Bool, true, false, List, [], Some, None, Result, length, get_or, arith, refl, if◌then◌else◌}
use Rattle.std.specs.Prelude.{nat_le}
use Rattle.std.specs.Result.{OkIff}
use Rattle.std.specs.Str.{all_ascii_digits}
use Rattle.std.specs.Str.Parse.{digits_value, ParsesUnsigned}
use Rattle.std.proofs.lemmas.Str.Parse.{IsNumeralModel, numerals_by_value, parse_plain, tells_all_ascii_digits}
use Rattle.command_words.specs.Numbers.{has_leading_digit, number_up_to}

pub own_digits : IsNumeralModel (λ ds. all_ascii_digits ds ≡ true) (digits_value 10)
own_digits = numerals_by_value _ tells_all_ascii_digits

abbrev pub IsNumber : List ℕ → Type 0
IsNumber text = (all_ascii_digits text ≡ true) × (0 < length text) × (digits_value 10 text < 2 ^ 64)

-- a text with a digit other than zero in front has no sign
pub parse_unsigned : {E : Type 0} (text : List ℕ) (r : Result ℕ E) → has_leading_digit text ≡ true
    → ParsesUnsigned 64 10 text r → OkIff r (IsNumber text) (digits_value 10 text)
parse_unsigned text r led parsed = parse_plain own_digits 64 text r parsed (no_plus text led)
  where
    no_plus : (t : List ℕ) → has_leading_digit t ≡ true → get_or t 0 0 ≢ 43
    no_plus [] e = cc
    no_plus (x ∷ xs) e = λ plus. let known : x ≡ 43 = plus in let bad : false ≡ true = rw known at e in cc

picked : (a b c : Bool) (n m : ℕ) → a ≡ true → b ≡ true → c ≡ true → n ≡ m → Some n ≡ (if (a && b) && c then Some m else None)
picked true true true n m p q r e = ap Some e
picked true true false n m p q r e = cc
picked true false c n m p q r e = cc
picked false b c n m p q r e = cc

none_picked : (a b c : Bool) (m : ℕ) → (a ≡ true → b ≡ true → c ≡ true → ⊥) → None ≡ (if (a && b) && c then Some m else None)
none_picked true true true m wrong = absurd (wrong refl refl refl)
none_picked true true false m wrong = refl
none_picked true false c m wrong = refl
none_picked false b c m wrong = refl

pub number_within : (most : ℕ) (text : List ℕ) (n : ℕ) → has_leading_digit text ≡ true → IsNumber text → n ≡ digits_value 10 text
    → n ≤ most → Some n ≡ number_up_to most text
number_within most text n led number is within = picked (has_leading_digit text) _ _ n _ led number.0 (grind (arith, nat_tests)) is

pub no_number : (most : ℕ) (text : List ℕ) → most < 2 ^ 64 → (IsNumber text → ⊥) → None ≡ number_up_to most text
no_number most text fits wrong = none_picked (has_leading_digit text) _ _ _ (λ a b c.
    let within : digits_value 10 text ≤ most = grind (arith, nat_tests) in
    wrong (b, some text a, omega arith))
  where
    some : (t : List ℕ) → has_leading_digit t ≡ true → 0 < length t
    some [] e = cc
    some (x ∷ xs) e = omega arith

pub number_beyond : (most : ℕ) (text : List ℕ) (n : ℕ) → n ≡ digits_value 10 text → most < n → None ≡ number_up_to most text
number_beyond most text n is beyond = none_picked (has_leading_digit text) (all_ascii_digits text) (nat_le (digits_value 10 text) most) _ (λ a b c. grind (arith, nat_tests))
