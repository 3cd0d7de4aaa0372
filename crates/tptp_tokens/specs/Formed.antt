-- Which tokens are well formed.
use Rattle.std.specs.Prelude.{◌≡◌, Bool, true, List, [], ◌∷◌}
use Rattle.fol.specs.Formed.{is_name, is_formed_var}
use Rattle.tptp_tokens.specs.declared.tokens.Token.{Token}
use Rattle.tptp_tokens.specs.declared.tokens.Token.TheVariants.{Name, Variable}
use Rattle.tptp_tokens.specs.declared.tokens.Scan.{Scan}
use Rattle.tptp_tokens.specs.declared.tokens.Scan.TheVariants.{Found}

-- a name is one or more printable bytes, and a variable is well formed
abbrev pub is_formed_token : Token → Bool
is_formed_token (Name x) = is_name x
is_formed_token (Variable v) = is_formed_var v
is_formed_token t = true

abbrev pub IsFormedScan : Scan → Type 0
IsFormedScan (Found t n) = is_formed_token t ≡ true
IsFormedScan s = Unit {0}

abbrev pub AreFormedTokens : List Token → Type 0
AreFormedTokens [] = Unit {0}
AreFormedTokens (t ∷ ts) = (is_formed_token t ≡ true) × AreFormedTokens ts
