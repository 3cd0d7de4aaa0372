-- The part of a line that was taken so far.
use Rattle.std.specs.Prelude.{◌≡◌, ℕ, ◌<◌, ◌≤◌, ◌==◌, Bool, false, List, [], ◌∷◌, ◌++◌, length, MatchBool}
use Rattle.edge_io.specs.declared.lines.LineSoFar.{LineSoFar}
use Rattle.edge_io.specs.declared.lines.LineSoFar.TheVariants.{Kept, Skipped}
use Rattle.edge_io.specs.declared.next.Next.{Next}
use Rattle.edge_io.specs.declared.next.Next.TheVariants.{Line, TooLong}
use Rattle.edge_io.specs.Lines.{OneLine}
use Rattle.edge_io.specs.Reader.{Reader}

-- it stands for these bytes: it keeps them where they are at most `max`, and else none of them
abbrev pub IsSoFar : LineSoFar → ℕ → List ℕ → Type 0
IsSoFar (Kept v) max got = (v.items ≡ got) × (length got ≤ max)
IsSoFar Skipped max got = max < length got

-- no byte was taken so far
abbrev pub is_nothing : LineSoFar → Bool
is_nothing (Kept v) = length v.items == 0
is_nothing Skipped = false

-- the answer, once the line is whole
abbrev pub next_of : LineSoFar → Next
next_of (Kept v) = Line v
next_of Skipped = TooLong

-- whatever bytes the old one stands for, the new one stands for these and the piece behind them
abbrev pub Grows : LineSoFar → LineSoFar → ℕ → List ℕ → Type 0
Grows old new max piece = (got : List ℕ) → IsSoFar old max got → IsSoFar new max (got ++ piece)

-- the pending bytes before the first newline went to the line, and so did that newline, if there is one
pub record TakesPiece (whole : Bool) (max : ℕ) (old new : LineSoFar) (from to : Reader) : Type 0 where
  pub piece : List ℕ
  pub one : OneLine piece
  pub grows : Grows old new max piece
  pub split : MatchBool whole (from.pending ≡ piece ++ 10 ∷ to.pending) ((from.pending ≡ piece) × (to.pending ≡ []))
  pub same : to ≡ record from { pending = to.pending }
