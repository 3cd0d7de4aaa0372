-- The number that is written is the number that its bytes stand for.
use Rattle.std.specs.Prelude.{◌≡◌, ℕ, ◌<◌, ◌^◌}
use Rattle.std.specs.Hash.{le_bytes}
use Rattle.std.proofs.lemmas.Nat.{from_le_bytes-to_le_bytes_4, from_le_bytes-to_le_bytes_8}
use Rattle.number_hash.specs.Numbers.{number_of}

pub of_32 : (x : ℕ) → x < 2 ^ 32 → number_of (le_bytes 4 x) ≡ x
unfolding le_bytes
of_32 x fits = from_le_bytes-to_le_bytes_4 x fits

pub of_64 : (x : ℕ) → x < 2 ^ 64 → number_of (le_bytes 8 x) ≡ x
unfolding le_bytes
of_64 x fits = from_le_bytes-to_le_bytes_8 x fits
