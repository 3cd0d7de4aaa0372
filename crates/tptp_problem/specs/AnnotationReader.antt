-- What the code computes in the annotation of an entry.
use Rattle.std.specs.Prelude.{ℕ, suc, ◌-◌, Bool, true, false, List, [], ◌∷◌, length, drop, Result, Ok, Err}
use Rattle.tptp_tokens.specs.declared.tokens.TextKind.TheVariants.{Expected}
use Rattle.tptp_read.specs.Turns.{Turn, on, answer, run}
use Rattle.tptp_problem.specs.declared.errors.Fault.{Fault}
use Rattle.tptp_problem.specs.declared.errors.ProblemKind.TheVariants.{Text}
use Rattle.tptp_problem.specs.declared.annotations.Bracket.{Bracket}
use Rattle.tptp_problem.specs.declared.annotations.Bracket.TheVariants.{Round, Square}
use Rattle.tptp_problem.specs.declared.annotations.Closing.{Closing}
use Rattle.tptp_problem.specs.declared.annotations.Closing.TheVariants.{Refused, Ended, Inside}
use Rattle.tptp_problem.specs.declared.annotations.Piece.{Piece}
use Rattle.tptp_problem.specs.declared.annotations.Piece.TheVariants.{End as EndOfText, Separator, Passed, Opens, Closes, Wrong as WrongPiece}
use Rattle.tptp_problem.specs.Readers.{fault}
use Rattle.tptp_problem.specs.Pieces.{piece_of}

-- what a closing bracket does, with these brackets open, the innermost first, and with a piece before it or not
abbrev pub closing : Bracket → List Bracket → Bool → Closing
closing Round (Round ∷ outer) some = Inside
closing Square (Square ∷ outer) some = Inside
closing Round [] true = Ended
closing b outer some = Refused

-- the brackets without the innermost
abbrev pub outer_of : List Bracket → List Bracket
outer_of [] = []
outer_of (b ∷ outer) = outer

-- In an annotation: the brackets that are open, the innermost first, whether a piece stands before, and the bytes that are left.
pub record Inner : Type 0 where
  pub open_ones : List Bracket
  pub some : Bool
  pub rest : List ℕ

abbrev pub inside : List Bracket → Bool → List ℕ → Inner
inside inner some bs = record { open_ones = inner; some = some; rest = bs }

abbrev pub at_closing : Closing → List Bracket → Bool → List ℕ → Turn Inner (Result (List ℕ) Fault)
at_closing Refused inner some bs = answer (Err (fault (length bs) (Text Expected)))
at_closing Ended inner some bs = answer (Ok (drop 1 bs))
at_closing Inside inner some bs = on (inside (outer_of inner) some (drop 1 bs))

abbrev pub at_piece : Piece → List Bracket → Bool → List ℕ → Turn Inner (Result (List ℕ) Fault)
at_piece EndOfText inner some bs = answer (Err (fault 0 (Text Expected)))
at_piece Separator inner some bs = on (inside inner some (drop 1 bs))
at_piece (Passed n) inner some bs = on (inside inner true (drop n bs))
at_piece (Opens o) inner some bs = on (inside (o ∷ inner) true (drop 1 bs))
at_piece (Closes o) inner some bs = at_closing (closing o inner some) inner some bs
at_piece (WrongPiece n e) inner some bs = answer (Err (fault (length bs - n) (Text e)))

abbrev pub annotation_turn : Inner → Turn Inner (Result (List ℕ) Fault)
annotation_turn c = at_piece (piece_of c.rest) c.open_ones c.some c.rest

-- The bytes behind the `)` that ends the annotation. Each turn takes a byte at least.
abbrev pub annotation_from : List Bracket → Bool → List ℕ → Result (List ℕ) Fault
annotation_from inner some bs = run annotation_turn (Err (fault 0 (Text Expected))) (suc (length bs)) (inside inner some bs)

unfoldable pub annotation_at : List ℕ → Result (List ℕ) Fault
annotation_at bs = annotation_from [] false bs
