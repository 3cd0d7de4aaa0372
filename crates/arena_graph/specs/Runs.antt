-- Lists that begin with the same numbers.
use Rattle.std.specs.Prelude.{◌≡◌, ℕ, ◌≤◌, ◌==◌, if◌then◌else◌, List, length, take}
use Rattle.std.specs.Int.{w64, trailing_zeros}

-- both lists begin with the same n numbers
pub record IsSameRun (xs ys : List ℕ) (n : ℕ) : Type 0 where
  pub first : n ≤ length xs
  pub second : n ≤ length ys
  pub same : take n xs ≡ take n ys

-- the place of the lowest bit that is set, or n
abbrev pub first_set : ℕ → ℕ → ℕ
first_set mask n = if mask == 0 then n else trailing_zeros w64 mask
