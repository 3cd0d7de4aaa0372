-- What the command makes of the words that it takes.
use Rattle.std.proofs.Common.{◌≡◌, ◌<◌, ◌≤◌, ◌^◌, ℕ, true, [], ◌∷◌, Some, sym, get_or, arith}
use Rattle.std.specs.Fmt.{decimal}
use Rattle.std.specs.Str.{all_ascii_digits}
use Rattle.std.proofs.lemmas.Bool.Decides.{nat_tests}
use Rattle.std.proofs.lemmas.Fmt.{decimal_nonempty, digits_decimal, digits_value-decimal, first_decimal}
use Rattle.clap.specs.Walk.{Text}
use Rattle.command_words.specs.Numbers.{has_leading_digit, number_up_to}
use Rattle.command_words.proofs.NumberLemmas.{number_within, own_digits}

leads : (text : Text) → 48 < get_or text 0 0 → all_ascii_digits text ≡ true → has_leading_digit text ≡ true
leads [] low digits = absurd (omega arith)
leads (x ∷ xs) low digits = grind (arith, nat_tests)

pub number_back : (most n : ℕ) → most < 2 ^ 64 → 1 ≤ n → n ≤ most → number_up_to most (decimal n) ≡ Some n
number_back most n fits low high =
    let small : n < 2 ^ 64 = omega arith in
    let value = digits_value-decimal own_digits n small in
    let digits = digits_decimal own_digits n small in
    sym (number_within most (decimal n) n (leads (decimal n) (first_decimal n (omega arith) small) digits)
    (digits, decimal_nonempty n small, rw value small) (sym value) high)
