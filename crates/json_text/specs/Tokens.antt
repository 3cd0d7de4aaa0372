-- What is written of a JSON text token by token.
use Rattle.std.specs.Prelude.{◌≡◌, ℕ, List, ◌++◌, Option, Some, None}
use Rattle.json.specs.Token.{Token}
use Rattle.json.specs.Tree.{json_tokens}
use Rattle.json.specs.Print.{print}
use Rattle.serde_json.specs.Data.{Data}
use Rattle.serde_json.specs.Written.{outline}

-- the tokens of a value
abbrev pub data_tokens : Data → List Token
data_tokens d = json_tokens (outline d)

-- the tokens so far, where memory sufficed for them
abbrev pub Written : Type 0
Written = Option (List Token)

abbrev pub AddsTokens : Written → Written → List Token → Type 0
AddsTokens old None tokens = Unit {0}
AddsTokens None (Some new) tokens = ⊥
AddsTokens (Some old) (Some new) tokens = new ≡ old ++ tokens

-- these tokens are added, unless memory runs out
pub record Adds (old new : Written) (tokens : List Token) : Type 0 where
  pub added : AddsTokens old new tokens

-- the bytes are the text of the tokens
abbrev pub IsTextOf : Written → List ℕ → Type 0
IsTextOf None bytes = ⊥
IsTextOf (Some tokens) bytes = bytes ≡ print tokens
