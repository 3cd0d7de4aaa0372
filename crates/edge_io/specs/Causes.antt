-- When a call on an end may fail: an end counts its own faults, and an error shows in its count.
use Rattle.std.specs.Prelude.{◌≡◌, ℕ, ◌-◌, ◌^◌, ◌<◌, ◌⊎◌, Result, OnErr}

-- a count of faults rose: it is greater than before, or stands at its greatest value, that of a `u64`
abbrev pub Rose : ℕ → ℕ → Type 0
Rose old new = (old < new) ⊎ (new ≡ 2 ^ 64 - 1)

-- an `Err` comes only where the count rose
abbrev pub HasCause : {T E : Type 0} → ℕ → ℕ → Result T E → Type 0
HasCause old new r = OnErr r (Rose old new)
