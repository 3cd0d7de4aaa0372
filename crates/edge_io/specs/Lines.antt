-- What the lines of some bytes are.
use Rattle.std.specs.Prelude.{◌≡◌, ℕ, ◌-◌, ◌==◌, Bool, false, if◌then◌else◌, List, [], ◌++◌, length, take, slice_index_or}
use Rattle.std.specs.List.{All, slice_split}

-- the byte that ends a line
abbrev pub is_newline : ℕ → Bool
is_newline b = b == 10

-- no newline is among the bytes
abbrev pub OneLine : List ℕ → Type 0
OneLine bytes = All (λ b. is_newline b ≡ false) bytes

-- the parts between the newlines; the last one is what follows the last newline, and may be empty
abbrev pub parts_of : List ℕ → List (List ℕ)
parts_of bytes = slice_split is_newline bytes

-- the lines that a newline ends: all parts but the last
abbrev pub whole_lines : List ℕ → List (List ℕ)
whole_lines bytes = take (length (parts_of bytes) - 1) (parts_of bytes)

-- what follows the last newline
abbrev pub last_part : List ℕ → List ℕ
last_part bytes = slice_index_or (parts_of bytes) (length (parts_of bytes) - 1) []

-- all lines: those that a newline ends, and a last one without newline where it isn't empty
abbrev pub lines_of : List ℕ → List (List ℕ)
lines_of bytes = if length (last_part bytes) == 0 then whole_lines bytes else parts_of bytes

-- the bytes are these lines, each with its newline: so they split in the same way before any rest
abbrev pub AreLines : List ℕ → List (List ℕ) → Type 0
AreLines bytes lines = (rest : List ℕ) → slice_split is_newline (bytes ++ rest) ≡ lines ++ slice_split is_newline rest
