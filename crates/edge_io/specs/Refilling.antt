-- What a refill of a reader with nothing pending says.
use Rattle.std.specs.Prelude.{◌≡◌, ℕ, ◌-◌, ◌<◌, ◌≤◌, true, List, [], ◌∷◌, length, Option}
use Rattle.std.specs.Io.KnownBytes.{Consumes, IsAtEnd}
use Rattle.edge_io.specs.declared.reader.Refill.{Refill}
use Rattle.edge_io.specs.declared.reader.Refill.TheVariants.{Bytes, End, Fault, Full}
use Rattle.edge_io.specs.Causes.{Rose}
use Rattle.edge_io.specs.Reader.{Reader}

-- some bytes were taken, within the room, and are pending now
abbrev pub TakesBytes : Reader → Reader → Option (List ℕ) → Option (List ℕ) → Type 0
TakesBytes old new before after = (taken : List ℕ) × Consumes before after taken × (0 < length taken) × (length taken ≤ old.room)
    × (new ≡ record old { pending = taken; room = old.room - length taken })

-- there is no room, and a byte came that is past the limit
abbrev pub TakesByteTooMany : Reader → Option (List ℕ) → Option (List ℕ) → Type 0
TakesByteTooMany old before after = (byte : ℕ) × Consumes before after (byte ∷ []) × (old.room ≡ 0)

-- what each answer says; f and f' are the source's faults, and before and after the bytes that it has left
abbrev pub Refills : Refill → ℕ → ℕ → Reader → Reader → Option (List ℕ) → Option (List ℕ) → Type 0
Refills Bytes f f' old new before after = TakesBytes old new before after
Refills End f f' old new before after = Consumes before after [] × IsAtEnd after × (new ≡ record old { at_end = true })
Refills Fault f f' old new before after = Rose f f' × Consumes before after [] × (new ≡ old)
Refills Full f f' old new before after = TakesByteTooMany old before after × (new ≡ old)
