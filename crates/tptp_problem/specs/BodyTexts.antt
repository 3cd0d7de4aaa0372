-- The bodies of entries, as relations on tokens and bytes.
use Rattle.std.specs.Prelude.{◌≡◌, ℕ, ◌-◌, List, [], ◌∷◌, ◌++◌, length}
use Rattle.fol.specs.Syntax.{Formula}
use Rattle.tptp_tokens.specs.declared.tokens.Token.{Token}
use Rattle.tptp_tokens.specs.declared.tokens.Token.TheVariants.{Close, Comma}
use Rattle.tptp_tokens.specs.declared.tokens.TextKind.{TextKind}
use Rattle.tptp_tokens.specs.declared.tokens.TextKind.TheVariants.{Expected, Deep}
use Rattle.tptp_tokens.specs.declared.tokens.Scan.TheVariants.{Wrong}
use Rattle.tptp_tokens.specs.Lexer.{scanned}
use Rattle.tptp_read.specs.declared.state.Limits.{Limits}
use Rattle.tptp_read.specs.declared.state.Outcome.TheVariants.{Formula as FormulaRead}
use Rattle.tptp_read.specs.Grammar.{formulas, Reads}
use Rattle.tptp_read.specs.Reader.{IsFrontIn, IsAnyFrontIn, IsCleanIn, IsNoComma}
use Rattle.tptp_problem.specs.declared.errors.ProblemKind.{ProblemKind}
use Rattle.tptp_problem.specs.declared.errors.ProblemKind.TheVariants.{Text, Clause as NoClause}
use Rattle.tptp_problem.specs.declared.problems.Language.{Language}
use Rattle.tptp_problem.specs.declared.problems.Language.TheVariants.{Fof, Cnf}
use Rattle.tptp_problem.specs.Tokens.{Blanks, Takes, TakesAll}
use Rattle.tptp_problem.specs.Clauses.{IsClause}

-- The limits inside an entry: 199 levels, since its own parenthesis is the first of 200, and 1,000 members or variables.
abbrev pub entry_limits : Limits
entry_limits = record { levels = 199; operators = 999; variables = 1000 }

-- the tokens are a body that means f: a formula in `fof`, a clause in `cnf`
abbrev pub IsBody : Language → Limits → List Token → Formula → Type 0
IsBody Fof lim ts f = Reads lim formulas ts (FormulaRead f)
IsBody Cnf lim ts f = IsClause lim lim.levels ts f []

-- the tokens begin a body within the limits; and within any; and they begin one within those of an entry, but for a comma
abbrev pub IsBodyFront : Language → Limits → List Token → Type 0
IsBodyFront l lim ts = IsFrontIn (IsBody l) lim ts

abbrev pub IsAnyBodyFront : Language → List Token → Type 0
IsAnyBodyFront l ts = IsAnyFrontIn (IsBody l) ts

abbrev pub IsCleanBody : Language → List Token → Type 0
IsCleanBody l ts = IsCleanIn (IsBody l) entry_limits ts

-- a `,` or a `)` ends a body
pub data IsEnd : Token → Type 0 where
  comma : IsEnd Comma
  close : IsEnd Close

-- what a token that no body has there is called, and an end of the text
abbrev pub unexpected_in : Language → ProblemKind
unexpected_in Fof = Text Expected
unexpected_in Cnf = NoClause

-- why the token t is a fault behind the tokens `before` of a body: no body goes on so, and none ends there; or none within the limits
-- goes on so
pub data Because (l : Language) (before : List Token) (t : Token) : ProblemKind → Type 0 where
  unexpected : (IsAnyBodyFront l (before ++ t ∷ []) → ⊥) → ((f : Formula) → IsEnd t → IsBody l entry_limits before f → ⊥) → Because l before t (unexpected_in l)
  deep : (IsBodyFront l entry_limits (before ++ t ∷ []) → ⊥) → IsAnyBodyFront l (before ++ t ∷ []) → IsNoComma t → Because l before t (Text Deep)

-- what is wrong behind the tokens `before` of a body, with so many bytes left: a token, the end of the text, or bytes that are no token
pub data Blames (l : Language) (before : List Token) (bs : List ℕ) : ℕ → ProblemKind → Type 0 where
  at_token : (front rest : List ℕ) (t : Token) (k : ProblemKind) → Takes bs front t rest → Because l before t k → Blames l before bs (length front) k
  at_end : Blanks bs [] → Blames l before bs 0 (unexpected_in l)
  at_bytes : (front : List ℕ) (n : ℕ) (e : TextKind) → Blanks bs front → scanned front ≡ Wrong n e → Blames l before bs (length front - n) (Text e)

-- the first fault of a body
pub record IsBodyFault (l : Language) (bs : List ℕ) (n : ℕ) (k : ProblemKind) : Type 0 where
  pub before : List Token
  pub rest : List ℕ
  pub takes : TakesAll bs before rest
  pub front : IsAnyBodyFront l before
  pub clean : IsCleanBody l before
  pub blames : Blames l before rest n k
