-- Annotations, as a relation on bytes. What stands at the front in an annotation is a separator, a piece (a byte, a text in quotes or a
-- comment), or a bracket.
use Rattle.std.specs.Prelude.{◌≡◌, ℕ, ◌-◌, Bool, true, false, List, [], ◌∷◌, length, drop}
use Rattle.tptp_tokens.specs.declared.tokens.TextKind.{TextKind}
use Rattle.tptp_tokens.specs.declared.tokens.TextKind.TheVariants.{Expected}
use Rattle.tptp_problem.specs.declared.annotations.Bracket.{Bracket}
use Rattle.tptp_problem.specs.declared.annotations.Bracket.TheVariants.{Round, Square}
use Rattle.tptp_problem.specs.declared.annotations.Piece.TheVariants.{Separator, Passed, Opens, Closes, Wrong as WrongPiece}
use Rattle.tptp_problem.specs.declared.errors.ProblemKind.{ProblemKind}
use Rattle.tptp_problem.specs.declared.errors.ProblemKind.TheVariants.{Text}
use Rattle.tptp_problem.specs.Pieces.{piece_of}

-- pieces and separators in any number, up to the second bytes; whether a piece is among them
pub data ArePieces : List ℕ → Bool → List ℕ → Type 0 where
  no_piece : (bs : List ℕ) → ArePieces bs false bs
  separator : (bs cs : List ℕ) (some : Bool) → piece_of bs ≡ Separator → ArePieces (drop 1 bs) some cs → ArePieces bs some cs
  plain : (n : ℕ) (bs cs : List ℕ) (some : Bool) → piece_of bs ≡ Passed n → ArePieces (drop n bs) some cs → ArePieces bs true cs
  group : (o : Bracket) (bs cs ds : List ℕ) (some more : Bool) → piece_of bs ≡ Opens o → ArePieces (drop 1 bs) some cs → piece_of cs ≡ Closes o → ArePieces (drop 1 cs) more ds → ArePieces bs true ds

-- one or more pieces and then the `)` that closes the entry; `rest` is behind it
pub record IsAnnotation (bs rest : List ℕ) : Type 0 where
  pub closing : List ℕ
  pub pieces : ArePieces bs true closing
  pub closes : piece_of closing ≡ Closes Round
  pub behind : rest ≡ drop 1 closing

-- pieces up to the second bytes, where brackets are still open: the innermost of them first
pub data IsAnnotationFront (bs : List ℕ) : List Bracket → Bool → List ℕ → Type 0 where
  outside : (some : Bool) (cs : List ℕ) → ArePieces bs some cs → IsAnnotationFront bs [] some cs
  opened : (o : Bracket) (outer : List Bracket) (some more : Bool) (cs ds : List ℕ) → IsAnnotationFront bs outer some cs → piece_of cs ≡ Opens o → ArePieces (drop 1 cs) more ds → IsAnnotationFront bs (o ∷ outer) true ds

-- A closing bracket doesn't fit: another one is open, or none is and it is no `)` with a piece before it.
pub data FitsNot (o : Bracket) : List Bracket → Bool → Type 0 where
  other_open : (p : Bracket) (outer : List Bracket) (some : Bool) → (p ≡ o → ⊥) → FitsNot o (p ∷ outer) some
  none_open : (some : Bool) → o ≡ Square → FitsNot o [] some
  no_piece_before : FitsNot o [] false

-- the first fault of an annotation, with so many bytes left
pub data IsAnnotationFault (bs : List ℕ) : ℕ → ProblemKind → Type 0 where
  at_end : (inner : List Bracket) (some : Bool) → IsAnnotationFront bs inner some [] → IsAnnotationFault bs 0 (Text Expected)
  at_bracket : (inner : List Bracket) (some : Bool) (cs : List ℕ) (o : Bracket) → IsAnnotationFront bs inner some cs → piece_of cs ≡ Closes o → FitsNot o inner some → IsAnnotationFault bs (length cs) (Text Expected)
  at_bytes : (inner : List Bracket) (some : Bool) (cs : List ℕ) (n : ℕ) (e : TextKind) → IsAnnotationFront bs inner some cs → piece_of cs ≡ WrongPiece n e → IsAnnotationFault bs (length cs - n) (Text e)
