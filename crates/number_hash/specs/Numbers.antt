-- What a hasher of numbers does with the bytes that are written.
use Rattle.std.specs.Prelude.{ℕ, List, length, nat_eq, if◌then◌else◌, fold}
use Rattle.std.specs.Int.{from_le_bytes}
use mir.Syntax.{w32, w64}
use Rattle.fol.specs.Mixing.{mixed}
use Rattle.number_hash.specs.declared.hasher.NumberHasher.{NumberHasher}

-- the number that bytes stand for: that of 32 or 64 bits, and else a mixture of all bytes
abbrev pub number_of : List ℕ → ℕ
number_of bytes = if nat_eq (length bytes) 4 then from_le_bytes w32 bytes else if nat_eq (length bytes) 8 then from_le_bytes w64 bytes else fold mixed 0 bytes

-- the hasher after one write
abbrev pub written : NumberHasher → List ℕ → NumberHasher
written hasher bytes = record hasher { state = mixed hasher.state (number_of bytes) }

-- the hasher before any write
abbrev pub start : NumberHasher
start = record { state = 0 }
