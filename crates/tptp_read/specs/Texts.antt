-- Which texts are formulas and terms, and which fault of a text is the first one.
use Rattle.std.specs.Prelude.{◌≡◌, ℕ, List, Result, Ok, Err}
use Rattle.fol.specs.Syntax.{Term, Formula}
use Rattle.tptp_tokens.specs.declared.tokens.Token.{Token}
use Rattle.tptp_tokens.specs.declared.tokens.TextKind.{TextKind}
use Rattle.tptp_tokens.specs.declared.tokens.TextKind.TheVariants.{Expected}
use Rattle.tptp_tokens.specs.declared.tokens.TextFault.{TextFault}
use Rattle.tptp_tokens.specs.Stream.{Stream, next, ends, bad, stream_of, Begins}
use Rattle.tptp_read.specs.declared.state.Limits.{Limits}
use Rattle.tptp_read.specs.declared.state.Outcome.{Outcome}
use Rattle.tptp_read.specs.declared.state.Outcome.TheVariants.{Formula as FormulaRead, Term as TermRead}
use Rattle.tptp_read.specs.declared.state.TheConstants.{LIMITS}
use Rattle.tptp_read.specs.Grammar.{Sort, formulas, terms, Reads, texts}
use Rattle.tptp_read.specs.Reader.{◌>>=◌, IsAnyFrontIn, IsCleanIn, BecauseIn}
use Rattle.tptp_read.specs.Machine.{Reading, start, step, ending}

-- the whole text is tokens of the grammar, and means w
pub record IsText (lim : Limits) (sort : Sort) (st : Stream) (w : Outcome) : Type 0 where
  pub tokens : List Token
  pub length : ℕ
  pub whole : Begins st tokens (ends length)
  pub reads : Reads lim sort tokens w

-- The tokens begin a text; they do so within the limits, but for a comma; and why a token is a fault behind them.
abbrev pub IsAnyFront : Sort → List Token → Type 0
IsAnyFront sort ts = IsAnyFrontIn (texts sort) ts

abbrev pub IsClean : Limits → Sort → List Token → Type 0
IsClean lim sort ts = IsCleanIn (texts sort) lim ts

abbrev pub Because : Limits → Sort → List Token → Token → TextKind → Type 0
Because lim sort before t k = BecauseIn (texts sort) lim before t k

-- what comes behind the tokens `before` is this fault: a token, the end of the text, or bytes that are no token
abbrev pub Blames : Limits → Sort → List Token → Stream → TextFault → Type 0
Blames lim sort before (next at t st) e = (e.at ≡ at) × Because lim sort before t e.kind
Blames lim sort before (ends at) e = (e.at ≡ at) × ((e.kind ≡ Expected) × ((w : Outcome) → Reads lim sort before w → ⊥))
Blames lim sort before (bad at k) e = (e.at ≡ at) × (e.kind ≡ k)

-- the tokens before it begin a text, and it is a fault behind them
pub record IsFirstFault (lim : Limits) (sort : Sort) (st : Stream) (e : TextFault) : Type 0 where
  pub before : List Token
  pub rest : Stream
  pub split : Begins st before rest
  pub front : IsAnyFront sort before
  pub clean : IsClean lim sort before
  pub blames : Blames lim sort before rest e

-- the same of the bytes of a text that stands by itself
abbrev pub IsFormulaText : List ℕ → Formula → Type 0
IsFormulaText bytes f = IsText LIMITS formulas (stream_of bytes) (FormulaRead f)

abbrev pub IsTermText : List ℕ → Term → Type 0
IsTermText bytes t = IsText LIMITS terms (stream_of bytes) (TermRead t)

abbrev pub IsFormulaFault : List ℕ → TextFault → Type 0
IsFormulaFault bytes e = IsFirstFault LIMITS formulas (stream_of bytes) e

abbrev pub IsTermFault : List ℕ → TextFault → Type 0
IsTermFault bytes e = IsFirstFault LIMITS terms (stream_of bytes) e

-- reading by the machine, with places
abbrev pub placed : {A : Type 0} → ℕ → Result A TextKind → Result A TextFault
placed at (Ok x) = Ok x
placed at (Err k) = Err (record { at = at; kind = k })

abbrev pub read : Limits → Reading → Stream → Result Outcome TextFault
read lim r (next at t st) = placed at (step lim r t) >>= λ s. read lim s st
read lim r (ends at) = placed at (ending r)
read lim r (bad at k) = Err (record { at = at; kind = k })

-- the formula or the term that was read; a text that is read as one is never the other
abbrev pub formula_in : Result Outcome TextFault → Result Formula TextFault
formula_in (Ok (FormulaRead f)) = Ok f
formula_in (Ok (TermRead t)) = Err (record { at = 0; kind = Expected })
formula_in (Err e) = Err e

abbrev pub term_in : Result Outcome TextFault → Result Term TextFault
term_in (Ok (TermRead t)) = Ok t
term_in (Ok (FormulaRead f)) = Err (record { at = 0; kind = Expected })
term_in (Err e) = Err e

-- The reading of a text as a function: the formula or the term that the text is, or its first fault. The laws of readings say that it
-- is the one function of which `IsFormulaText` and `IsFormulaFault` (`IsTermText` and `IsTermFault`) hold.
unfoldable pub formula_reading : List ℕ → Result Formula TextFault
formula_reading bytes = formula_in (read LIMITS (start formulas) (stream_of bytes))

unfoldable pub term_reading : List ℕ → Result Term TextFault
term_reading bytes = term_in (read LIMITS (start terms) (stream_of bytes))
