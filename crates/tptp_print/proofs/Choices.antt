-- The choice of printed variables, as far as it has come.
use Rattle.std.proofs.Common.{◌≡◌, ℕ, ◌<◌, ◌≤◌, List, length, slice_index}
use Rattle.tptp_print.specs.Choice.{outside}
use Rattle.tptp_print.specs.Passed.{HasPassed}

-- the numbers chosen so far, and how far the list of numbers is passed
pub record Chosen (numbers chosen : List ℕ) (depth passed : ℕ) : Type 0 where
  pub len : length chosen ≡ depth
  pub each : (d : ℕ) → d < depth → slice_index chosen d ≡ outside numbers d
  pub within : passed ≤ length numbers
  pub passed_is : HasPassed numbers depth passed
