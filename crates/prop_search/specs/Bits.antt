-- Sets of numbers in words of 64 bits.
use Rattle.std.specs.Prelude.{ℕ, ◌+◌, ◌/◌, ◌%◌, Bool, ◌==◌, List, slice_index}
use Rattle.std.specs.Int.{bit_at}

-- whether a number is in the set: n is where bit n modulo 64 of word n / 64 is set
unfoldable pub has_number : List ℕ → ℕ → Bool
has_number words n = bit_at (slice_index words (n / 64)) (n % 64) == 1

-- how many words have room for the numbers below a count
abbrev pub words_for : ℕ → ℕ
words_for count = count / 64 + 1
