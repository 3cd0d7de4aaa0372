-- Small sets of numbers, as rising lists.
--     coded_numbers, same_numbers      their code, and whether two are equal
--     numbers_print      a number in which unequal sets mostly differ
use Rattle.std.specs.Prelude.{ℕ, Bool, List, fold}
use Rattle.std.specs.Coded.{Coded, coded_list}
use base.Stored.{coded_ℕ}
use Rattle.fol.specs.Mixing.{mixed}
use Rattle.number_hash.specs.Codes.{same_by}

abbrev pub coded_numbers : Coded (List ℕ)
coded_numbers = coded_list coded_ℕ

-- whether two lists of numbers are equal
abbrev pub same_numbers : List ℕ → List ℕ → Bool
same_numbers = same_by coded_numbers

-- a number in which unequal lists mostly differ
unfoldable pub numbers_print : List ℕ → ℕ
numbers_print ns = fold mixed 29 ns
