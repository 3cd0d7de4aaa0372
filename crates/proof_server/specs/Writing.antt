-- What a write of a piece says.
use Rattle.std.specs.Prelude.{ℕ, ◌<◌, List, length, take, Option, Result, Ok, Err}
use Rattle.std.specs.Io.KnownBytes.{Appends}
use Rattle.edge_io.specs.Causes.{Rose}

-- all of the piece was written, or a call failed behind a part of it; the sink's count of faults went from k to k'
abbrev pub Puts : {E : Type 0} → Result (Unit {0}) E → List ℕ → ℕ → ℕ → Option (List ℕ) → Option (List ℕ) → Type 0
Puts (Ok _) piece k k' old new = Appends old new piece
Puts (Err _) piece k k' old new = Rose k k' × ((n : ℕ) × (n < length piece) × Appends old new (take n piece))
