-- The law of sums: at a home, the value of a key is its sum with the home.
use Rattle.std.specs.Prelude.{◌≡◌, ◌+◌, ℕ}
use Rattle.std.specs.Ordering.{nat_cmp}
use Rattle.std.proofs.Common.{arith}
use Rattle.std.proofs.lemmas.Bool.Decides.{nat_tests}
use Rattle.std.specs.declared.cmp.Ordering.TheVariants.{Equal}

pub sum_respects : (home a b val : ℕ) → nat_cmp a b ≡ Equal → val ≡ home + a → val ≡ home + b
sum_respects home a b val same e = grind (arith, nat_tests)

-- The law of keys: the value of a key is the key.
pub key_respects : {Home : Type 0} (home : Home) (a b val : ℕ) → nat_cmp a b ≡ Equal → val ≡ a → val ≡ b
key_respects home a b val same e = grind (arith, nat_tests)
