-- How far the choice of printed variables has come in the list of numbers.
use Rattle.std.specs.Prelude.{◌≡◌, ℕ, ◌+◌, ◌≤◌, List, drop}
use Rattle.tptp_print.specs.Choice.{outside}

-- the first n numbers are met on the way at this depth and at every greater one
abbrev pub HasPassed : List ℕ → ℕ → ℕ → Type 0
HasPassed numbers depth n = (d : ℕ) → depth ≤ d → outside numbers d ≡ outside (drop n numbers) (d + n)
