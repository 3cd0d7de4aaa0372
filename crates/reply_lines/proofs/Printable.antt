-- Printable texts are ASCII, and so UTF-8.
use Rattle.std.proofs.Common.{◌≡◌, ℕ, ◌<◌, zero, suc, true, List, [], ◌∷◌, arith}
use Rattle.std.specs.List.{list_all}
use Rattle.std.specs.Str.{IsAscii, IsUtf8}
use Rattle.std.proofs.lemmas.Bool.{and_parts}
use Rattle.std.proofs.lemmas.Bool.Decides.{nat_tests}
use Rattle.std.proofs.lemmas.Str.{IsUtf8-from_ascii}
use Rattle.std.proofs.lemmas.Str.Ascii.{IsAscii-nil}
use Rattle.fol.specs.Formed.{is_printable}

printable_is_ascii : (b : ℕ) → is_printable b ≡ true → b < 128
printable_is_ascii b h = grind (arith, nat_tests)

ascii_more : (b : ℕ) (bs : List ℕ) → b < 128 → IsAscii bs → IsAscii (b ∷ bs)
ascii_more b bs first rest zero = first
ascii_more b bs first rest (suc i) = rest i

pub ascii_of_printable : (text : List ℕ) → list_all is_printable text ≡ true → IsAscii text
ascii_of_printable [] h = IsAscii-nil
ascii_of_printable (b ∷ bs) h =
    let parts = and_parts (is_printable b) (list_all is_printable bs) h in
    ascii_more b bs (printable_is_ascii b parts.0) (ascii_of_printable bs parts.1)

pub utf8_of_printable : (text : List ℕ) → list_all is_printable text ≡ true → IsUtf8 text
utf8_of_printable text h = IsUtf8-from_ascii text (ascii_of_printable text h)
