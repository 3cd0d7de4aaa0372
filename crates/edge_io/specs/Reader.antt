-- What a reader of lines holds.
use Rattle.std.specs.Prelude.{ℕ, ◌+◌, Bool, List, length}

-- a reader between two calls
pub record Reader : Type 0 where
  pub pending : List ℕ  -- taken from the source, and of no line yet
  pub room : ℕ  -- how many bytes it may still take
  pub at_end : Bool  -- the end of input was met: the next answer is `End`, with no read
  pub ended : Bool  -- it answered something else than a line

-- how many bytes it may still hand on
abbrev pub allowance : Reader → ℕ
allowance r = length r.pending + r.room
