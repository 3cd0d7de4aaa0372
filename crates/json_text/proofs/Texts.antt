-- The text of the tokens of one value.
use Rattle.std.proofs.Common.{◌≡◌, ℕ, List, [], ap, ◌∙◌}
use Rattle.std.specs.Prelude.{Some, None}
use Rattle.json.specs.Print.{print}
use Rattle.serde_json.specs.Data.{Data}
use Rattle.serde_json.specs.Written.{compact_text}
use Rattle.serde_json.proofs.Texts.{print-outline}
use Rattle.json_text.specs.Tokens.{data_tokens, Written, AddsTokens, Adds, IsTextOf}

text_by : (w : Written) (d : Data) (bytes : List ℕ) → AddsTokens (Some []) w (data_tokens d) → IsTextOf w bytes → bytes ≡ compact_text d
text_by None d bytes added is = absurd is
text_by (Some tokens) d bytes added is = is ∙ ap (λ ts. print ts) added ∙ print-outline d

-- a text with the tokens of a value is the value's text
pub text_of : (w : Written) (d : Data) (bytes : List ℕ) → Adds (Some []) w (data_tokens d) → IsTextOf w bytes → bytes ≡ compact_text d
text_of w d bytes added is = text_by w d bytes added.added is
