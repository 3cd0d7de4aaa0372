-- What the code computes in the body of an entry.
use Rattle.std.specs.Prelude.{ℕ, suc, Bool, true, false, ◌&&◌, List, length, Option, Some, None, is_ok, Result, Ok, Err}
use Rattle.fol.specs.Syntax.{Formula}
use Rattle.tptp_tokens.specs.declared.tokens.Token.{Token}
use Rattle.tptp_tokens.specs.declared.tokens.Token.TheVariants.{Close, Comma}
use Rattle.tptp_tokens.specs.declared.tokens.TextKind.{TextKind}
use Rattle.tptp_tokens.specs.declared.tokens.TextKind.TheVariants.{Expected}
use Rattle.tptp_read.specs.declared.errors.StepError.{StepError}
use Rattle.tptp_read.specs.declared.errors.StepError.TheVariants.{Memory as StepMemory, Kind}
use Rattle.tptp_read.specs.declared.state.Limits.{Limits}
use Rattle.tptp_read.specs.declared.state.Outcome.{Outcome}
use Rattle.tptp_read.specs.declared.state.Outcome.TheVariants.{Formula as FormulaRead, Term as TermRead}
use Rattle.tptp_read.specs.Given.{meaning}
use Rattle.tptp_read.specs.Grammar.{formulas}
use Rattle.tptp_read.specs.Reader.{Move, refused, goes, limited, Reader}
use Rattle.tptp_read.specs.Turns.{Turn, run, Answers, token_turn}
use Rattle.tptp_read.specs.Machine.{Reading, start, move, step, meant, ending}
use Rattle.tptp_problem.specs.declared.errors.Fault.{Fault}
use Rattle.tptp_problem.specs.declared.errors.ReadError.{ReadError}
use Rattle.tptp_problem.specs.declared.errors.ReadError.TheVariants.{Memory as ReadMemory, Fault as ReadFault}
use Rattle.tptp_problem.specs.declared.errors.ProblemKind.{ProblemKind}
use Rattle.tptp_problem.specs.declared.errors.ProblemKind.TheVariants.{Text, Clause as NoClause}
use Rattle.tptp_problem.specs.declared.problems.Language.{Language}
use Rattle.tptp_problem.specs.declared.problems.Language.TheVariants.{Fof, Cnf}
use Rattle.tptp_problem.specs.declared.clause_places.ClausePlace.{ClausePlace}
use Rattle.tptp_problem.specs.declared.clause_places.ClausePlace.TheVariants.{Clause}
use Rattle.tptp_problem.specs.declared.bodies.Body.{Body}
use Rattle.tptp_problem.specs.declared.bodies.TheConstants.{ENTRY_LIMITS}
use Rattle.tptp_problem.specs.ClausePlaces.{place_behind}
use Rattle.tptp_problem.specs.Readers.{fault, placed, look}

-- how far a body has been read: as a formula, and where it is one as a clause
pub record BodyReading : Type 0 where
  pub reading : Reading
  pub place : Option ClausePlace

abbrev pub body_reading : Option ClausePlace → Reading → BodyReading
body_reading p r = record { reading = r; place = p }

abbrev pub body_meaning : Body → BodyReading
body_meaning b = body_reading b.place (meaning b.state)

abbrev pub first_place : Language → Option ClausePlace
first_place Fof = None
first_place Cnf = Some Clause

abbrev pub body_start : Language → BodyReading
body_start l = body_reading (first_place l) (start formulas)

-- what a fault of a body that can't be helped by other limits is called
abbrev pub unexpected : Option ClausePlace → ProblemKind
unexpected None = Text Expected
unexpected (Some p) = NoClause

abbrev pub body_kind : Option ClausePlace → TextKind → ProblemKind
body_kind p Expected = unexpected p
body_kind p k = Text k

-- the error of a token or of the end of a body, with n bytes left
abbrev pub body_error : Option ClausePlace → ℕ → StepError → ReadError
body_error p n StepMemory = ReadMemory
body_error p n (Kind k) = ReadFault (fault n (body_kind p k))

-- the place behind a token, if it may stand there
abbrev pub some_place : Option ClausePlace → Option (Option ClausePlace)
some_place None = None
some_place (Some q) = Some (Some q)

abbrev pub places : Option ClausePlace → Token → Option (Option ClausePlace)
places None t = Some None
places (Some p) t = some_place (place_behind p t)

abbrev pub stepped : Option ClausePlace → Option (Option ClausePlace) → Result Reading TextKind → Result BodyReading ProblemKind
stepped p None x = Err (unexpected p)
stepped p (Some q) (Ok r) = Ok (body_reading q r)
stepped p (Some q) (Err k) = Err (body_kind p k)

unfoldable pub body_step : Limits → BodyReading → Token → Result BodyReading ProblemKind
body_step lim b t = stepped b.place (places b.place t) (step lim b.reading t)

-- what a body means that ends here
abbrev pub formula_from : Option ClausePlace → Result Outcome TextKind → Result Formula ProblemKind
formula_from p (Ok (FormulaRead f)) = Ok f
formula_from p (Ok (TermRead x)) = Err (unexpected p)
formula_from p (Err k) = Err (body_kind p k)

unfoldable pub body_ending : BodyReading → Result Formula ProblemKind
body_ending b = formula_from b.place (ending b.reading)

-- a `,` or a `)` ends a body that may end before it
abbrev pub is_end : Token → Bool
is_end Comma = true
is_end Close = true
is_end t = false

abbrev pub is_comma : Token → Bool
is_comma Comma = true
is_comma t = false

-- whether the body ends before this token
unfoldable pub ends_before : BodyReading → Token → Bool
ends_before b t = is_end t && is_ok (ending b.reading)

-- the formula of a body, with whether a `,` ended it, and the bytes behind
abbrev pub ended_by : Bool → List ℕ → Result Formula Fault → Result (Formula × Bool × List ℕ) Fault
ended_by comma bs (Ok f) = Ok (f, comma, bs)
ended_by comma bs (Err e) = Err e

-- the reader of bodies: that of formulas, kept to the places of a clause
abbrev pub at_place : Option (Option ClausePlace) → Move Reading → Move BodyReading
at_place None m = refused
at_place (Some q) refused = refused
at_place (Some q) (goes r) = goes (body_reading q r)
at_place (Some q) (limited x n r) = limited x n (body_reading q r)

abbrev pub body_move : BodyReading → Token → Move BodyReading
body_move b t = at_place (places b.place t) (move b.reading t)

abbrev pub formula_meant : Option Outcome → Option Formula
formula_meant (Some (FormulaRead f)) = Some f
formula_meant o = None

abbrev pub body_reader : Language → Reader BodyReading Formula
body_reader l = record { start = body_start l; move = body_move; ending = λ b. formula_meant (meant b.reading) }

abbrev pub closing : Bool → BodyReading → ℕ → Token → List ℕ → Option (Result (Formula × Bool × List ℕ) Fault)
closing true b n t rest = Some (ended_by (is_comma t) rest (placed n (body_ending b)))
closing false b n t rest = None

abbrev pub body_answers : Answers BodyReading (List ℕ) (Result (Formula × Bool × List ℕ) Fault)
body_answers = record {
  closes = λ b n t rest. closing (ends_before b t) b n t rest;
  stops = λ b n k. Err (fault n (body_kind b.place k));
  ends_text = λ b n. Err (fault n (unexpected b.place));
  breaks = λ n e. Err (fault n (Text e));
}

abbrev pub body_turn : BodyReading × List ℕ → Turn (BodyReading × List ℕ) (Result (Formula × Bool × List ℕ) Fault)
body_turn c = token_turn body_answers ENTRY_LIMITS body_move look c

-- The body from here on: its formula, whether a `,` ended it, and the bytes behind what ended it. Each turn takes a byte at least.
abbrev pub body_from : BodyReading → List ℕ → Result (Formula × Bool × List ℕ) Fault
body_from b bs = run body_turn (Err (fault 0 (Text Expected))) (suc (length bs)) (b, bs)

unfoldable pub body_at : Language → List ℕ → Result (Formula × Bool × List ℕ) Fault
body_at l bs = body_from (body_start l) bs
