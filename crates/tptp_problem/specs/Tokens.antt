-- Tokens at the front of bytes.
use Rattle.std.specs.Prelude.{◌≡◌, ℕ, List, [], ◌∷◌, drop}
use Rattle.tptp_tokens.specs.declared.tokens.Token.{Token}
use Rattle.tptp_tokens.specs.declared.tokens.Scan.TheVariants.{Blank, Found}
use Rattle.tptp_tokens.specs.Lexer.{scanned}

-- white space and comments stand before the second bytes
pub data Blanks : List ℕ → List ℕ → Type 0 where
  no_blank : (bs : List ℕ) → Blanks bs bs
  blank : (n : ℕ) (bs cs : List ℕ) → scanned bs ≡ Blank n → Blanks (drop n bs) cs → Blanks bs cs

-- The token t stands at the front, with white space and comments before it. `front` begins with its first byte, and `rest` is behind it.
pub record Takes (bs front : List ℕ) (t : Token) (rest : List ℕ) : Type 0 where
  pub length : ℕ
  pub blanks : Blanks bs front
  pub found : scanned front ≡ Found t length
  pub behind : rest ≡ drop length front

-- the same of several tokens
pub data TakesAll : List ℕ → List Token → List ℕ → Type 0 where
  no_token : (bs : List ℕ) → TakesAll bs [] bs
  more_tokens : (bs front cs ds : List ℕ) (t : Token) (ts : List Token) → Takes bs front t cs → TakesAll cs ts ds → TakesAll bs (t ∷ ts) ds
