-- The jobs of a session: which lines are jobs.
use Rattle.std.specs.Prelude.{◌≡◌, ℕ, ◌==◌, ◌||◌, ◌<◌, ◌^◌, Bool, false, not, nat_lt, List, [], ◌∷◌, ◌++◌, length, filter, Option, Some, None}
use Rattle.std.specs.List.{list_all}

-- a longer line is never read as a job
abbrev pub max_line : ℕ
max_line = 16777216

-- whether a line is too long to be read as a job
abbrev pub is_too_long : List ℕ → Bool
is_too_long line = nat_lt max_line (length line)

-- a session reads no more bytes
abbrev pub max_input : ℕ
max_input = 2 ^ 32

-- a space, a tab or a carriage return
abbrev pub is_blank : ℕ → Bool
is_blank b = b == 32 || b == 9 || b == 13

-- every line but one of blanks is a job; a line that is too long is one whatever it holds
abbrev pub is_job : List ℕ → Bool
is_job line = is_too_long line || not (list_all is_blank line)

abbrev pub jobs : List (List ℕ) → List (List ℕ)
jobs lines = filter is_job lines

-- what a session keeps of a line that it read: its bytes, or of a too long one nothing
abbrev pub IsKept : Option (List ℕ) → List ℕ → Type 0
IsKept (Some bytes) line = (bytes ≡ line) × (is_too_long line ≡ false)
IsKept None line = max_line < length line
