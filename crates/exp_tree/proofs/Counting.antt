-- Walks that sum up.
use Rattle.std.specs.Prelude.{◌≡◌, ℕ, ◌+◌}
use Rattle.exp_tree.specs.Sizes.{capped}

-- the sum so far, with what is left, is the whole sum, cut off
pub record IsSumSoFar (sum rest all : ℕ) : Type 0 where
  pub within : capped sum ≡ sum
  pub whole : capped (sum + rest) ≡ capped all
