-- Which texts are numbered variables: `V` (the byte 86) and the decimal digits of a number below 2 ^ 64, without leading zeros.
use Rattle.std.specs.Prelude.{ℕ, ◌+◌, ◌-◌, ◌*◌, ◌^◌, ◌==◌, ◌&&◌, nat_lt, if◌then◌else◌, List, [], ◌∷◌, Option, Some, None}
use Rattle.std.specs.Char.{is_ascii_digit}

-- the number whose decimal digits are those of n and then these, if it is below 2 ^ 64
abbrev pub digits_after : ℕ → List ℕ → Option ℕ
digits_after n [] = Some n
digits_after n (b ∷ bs) =
    if is_ascii_digit b && nat_lt (n * 10 + (b - 48)) (2 ^ 64) then digits_after (n * 10 + (b - 48)) bs else None

-- the number below 2 ^ 64 whose decimal digits these are, without leading zeros
abbrev pub number_of_digits : List ℕ → Option ℕ
number_of_digits [] = None
number_of_digits (b ∷ []) = digits_after 0 (b ∷ [])
number_of_digits (b ∷ c ∷ bs) = if b == 48 then None else digits_after 0 (b ∷ c ∷ bs)

-- the number of the numbered variable that has this text
abbrev pub number_of_text : List ℕ → Option ℕ
number_of_text [] = None
number_of_text (b ∷ bs) = if b == 86 then number_of_digits bs else None
