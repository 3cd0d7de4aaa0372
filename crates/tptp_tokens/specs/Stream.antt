-- The tokens of a whole text with their places.
use Rattle.std.specs.Prelude.{ℕ, zero, suc, ◌+◌, ◌-◌, List, [], ◌∷◌}
use Rattle.tptp_tokens.specs.declared.tokens.Token.{Token}
use Rattle.tptp_tokens.specs.declared.tokens.TextKind.{TextKind}
use Rattle.tptp_tokens.specs.declared.tokens.Scan.TheVariants.{End, Blank, Found, Wrong}
use Rattle.tptp_tokens.specs.Lexer.{scanned}

-- a text is a token at its place and what follows, or at its end, or has a fault there
pub data Stream : Type 0 where
  next : ℕ → Token → Stream → Stream
  ends : ℕ → Stream
  bad : ℕ → TextKind → Stream

-- the stream of a text whose first byte has the place `at`, from behind the next k bytes on
abbrev pub stream : ℕ → ℕ → List ℕ → Stream
stream k at [] = ends at
stream (suc k) at (b ∷ bs) = stream k (suc at) bs
stream zero at (b ∷ bs) =
    elim (scanned (b ∷ bs)) [
      | End ↦ ends at
      | Blank n ↦ stream (n - 1) (suc at) bs
      | Found t n ↦ next at t (stream (n - 1) (suc at) bs)
      | Wrong n e ↦ bad (at + n) e
    ]

abbrev pub stream_of : List ℕ → Stream
stream_of bytes = stream 0 0 bytes

-- the stream begins with these tokens, and `rest` follows them
pub data Begins : Stream → List Token → Stream → Type 0 where
  here : (st : Stream) → Begins st [] st
  behind : (at : ℕ) (t : Token) (st rest : Stream) (ts : List Token) → Begins st ts rest → Begins (next at t st) (t ∷ ts) rest
