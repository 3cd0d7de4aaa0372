-- The numbers of the command line.
use Rattle.std.specs.Prelude.{ℕ, Bool, false, ◌&&◌, List, [], ◌∷◌, Option, Some, None, nat_le, if◌then◌else◌}
use Rattle.std.specs.Str.{all_ascii_digits}
use Rattle.std.specs.Str.Parse.{digits_value}

-- the first byte is a digit other than zero
abbrev pub has_leading_digit : List ℕ → Bool
has_leading_digit [] = false
has_leading_digit (first ∷ rest) = nat_le 49 first && nat_le first 57

-- decimal digits, one or more, the first of which is no zero
abbrev pub is_numeral : List ℕ → Bool
is_numeral text = has_leading_digit text && all_ascii_digits text

-- the number from 1 to `most` that the text writes
abbrev pub number_up_to : ℕ → List ℕ → Option ℕ
number_up_to most text =
    if is_numeral text && nat_le (digits_value 10 text) most then Some (digits_value 10 text) else None
