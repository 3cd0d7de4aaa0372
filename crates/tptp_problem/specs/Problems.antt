-- Which texts are problems, and which fault of a text is the first one.
use Rattle.std.specs.Prelude.{◌≡◌, ℕ, ◌+◌, List, [], ◌∷◌, ◌++◌, length, Result, Ok, Err}
use Rattle.tptp_problem.specs.declared.errors.ProblemKind.{ProblemKind}
use Rattle.tptp_problem.specs.declared.errors.ProblemError.{ProblemError}
use Rattle.tptp_problem.specs.declared.errors.ProblemError.TheVariants.{At, Memory as NoMemory}
use Rattle.tptp_problem.specs.declared.problems.Entry.{Entry}
use Rattle.tptp_problem.specs.declared.problems.Problem.{Problem}
use Rattle.tptp_problem.specs.Tokens.{Blanks}
use Rattle.tptp_problem.specs.Closures.{problem_sequent}
use Rattle.tptp_problem.specs.EntryTexts.{IsEntry, Place, Reaches, Fails}

-- the text begins with these entries, and the second bytes are left
pub data BeginsWith (text : List ℕ) : List Entry → List ℕ → Type 0 where
  nothing : BeginsWith text [] text
  entry : (es : List Entry) (e : Entry) (bs cs : List ℕ) → BeginsWith text es bs → IsEntry es bs e cs → BeginsWith text (es ++ e ∷ []) cs

-- The text is these entries and white space and comments around their tokens, and the sequent is theirs: the universal closures of the
-- entries that are no conjecture on the left, and the conjunction of the others on the right, where there are any.
pub record IsProblemText (text : List ℕ) (p : Problem) : Type 0 where
  pub rest : List ℕ
  pub begins : BeginsWith text p.entries rest
  pub ends : Blanks rest []
  pub sequent : p.sequent ≡ problem_sequent p.entries

-- The first fault: good entries stand before, and the text isn't at its end; the next one reaches a place at which something else stands
-- than may stand there. The bytes before the fault and those that are left from there on make up the text.
pub record IsProblemFault (text : List ℕ) (at : ℕ) (k : ProblemKind) : Type 0 where
  pub earlier : List Entry
  pub rest : List ℕ
  pub begins : BeginsWith text earlier rest
  pub more : Blanks rest [] → ⊥
  pub place : Place
  pub bytes : List ℕ
  pub reaches : Reaches earlier rest place bytes
  pub left : ℕ
  pub fails : Fails earlier place bytes left k
  pub at_left : at + left ≡ length text

-- what a call answers, unless memory runs out
abbrev pub GivesProblem : Result Problem ProblemError → Result Problem (ℕ × ProblemKind) → Type 0
GivesProblem (Ok p) expected = expected ≡ Ok p
GivesProblem (Err NoMemory) expected = Unit {0}
GivesProblem (Err (At at k)) expected = expected ≡ Err (at, k)

-- what holds of a fault, where there is one
abbrev pub IfFault : Result Problem ProblemError → (ℕ → ProblemKind → Type 0) → Type 0
IfFault (Ok p) P = Unit {0}
IfFault (Err NoMemory) P = Unit {0}
IfFault (Err (At at k)) P = P at k
