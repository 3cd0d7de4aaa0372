-- Fingerprints: numbers of 64 bits in which unequal values mostly differ. Equal values have equal fingerprints, and no proof needs more.
use Rattle.std.specs.Prelude.{ℕ, ◌*◌, ◌/◌, ◌%◌, ◌^◌, fold, List, bit_xor}

-- z with its high half folded onto its low one
unfoldable pub folded : ℕ → ℕ
folded z = bit_xor z (z / 2 ^ 32)

-- the fingerprint h with one more number in it
unfoldable pub mixed : ℕ → ℕ → ℕ
mixed h x = folded (bit_xor h x * 0x9e3779b97f4a7c15 % 2 ^ 64)

-- the fingerprint of a text
unfoldable pub text_fingerprint : List ℕ → ℕ
text_fingerprint x = fold mixed 15 x
