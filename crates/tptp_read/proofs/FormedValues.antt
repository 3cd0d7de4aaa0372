-- What the reading of a text gives is well formed.
use Rattle.std.proofs.Common.{◌≡◌, ℕ, List, length, Option, Some, IfSome, Ok, refl, subst}
use Rattle.fol.specs.declared.symbols.Var.{Var}
use Rattle.fol.specs.Formed.{IsFormed, IsFormedTerm, IsFormedVar}
use Rattle.fol.specs.Syntax.{Term, Formula}
use Rattle.tptp_tokens.specs.Lexer.{scanned, whole_variable}
use Rattle.tptp_tokens.proofs.FormedTokens.{formed_variable}
use Rattle.tptp_read.specs.Texts.{formula_reading, term_reading}
use Rattle.tptp_read.proofs.Formed.{text_formed, term_text_formed}
use Rattle.tptp_read.proofs.Whole.{exact_formula, exact_term}

pub formula_value : (text : List ℕ) (f : Formula) → formula_reading text ≡ Ok f → IsFormed f
formula_value text f is = text_formed text f ((exact_formula text (Ok f)).0 is)

pub term_value : (text : List ℕ) (t : Term) → term_reading text ≡ Ok t → IsFormedTerm t
term_value text t is = term_text_formed text t ((exact_term text (Ok t)).0 is)

pub variable_value : (text : List ℕ) (v : Var) → whole_variable (scanned text) (length text) ≡ Some v → IsFormedVar v
variable_value text v is = subst (λ (o : Option Var). IfSome o IsFormedVar) is (formed_variable text (Ok (whole_variable (scanned text) (length text))) refl)
