-- None of the numbers so far is in both.
use Rattle.std.proofs.Common.{◌≡◌, ℕ, ◌*◌, ◌<◌, false, ◌&&◌}
use Rattle.prop_search.specs.Bits.{has_number}
use Rattle.prop_search.proofs.bits.first_common.Given as goal

abbrev pub invariant-loop-i : goal.invariant-loop-i
invariant-loop-i l = (n : ℕ) → n < 64 * l.i → (has_number l.a n && has_number l.b n) ≡ false
