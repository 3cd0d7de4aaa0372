-- What stands at the front in an annotation: a separator, a piece (a byte, a text in quotes or a comment), or a bracket.
use Rattle.std.specs.Prelude.{◌≡◌, ℕ, suc, ◌≤◌, Bool, true, false, ◌==◌, ◌&&◌, ◌||◌, if◌then◌else◌, List, [], ◌∷◌}
use Rattle.fol.specs.Formed.{is_printable}
use Rattle.tptp_tokens.specs.declared.tokens.TextKind.TheVariants.{Token as NoToken, OpenQuote}
use Rattle.tptp_tokens.specs.declared.tokens.Scan.{Scan}
use Rattle.tptp_tokens.specs.declared.tokens.Scan.TheVariants.{Blank, Wrong}
use Rattle.tptp_tokens.specs.Lexer.{scanned, begins}
use Rattle.tptp_problem.specs.declared.annotations.Bracket.TheVariants.{Round, Square}
use Rattle.tptp_problem.specs.declared.annotations.Piece.{Piece}
use Rattle.tptp_problem.specs.declared.annotations.Piece.TheVariants.{End as EndOfText, Separator, Passed, Opens, Closes, Wrong as WrongPiece}

-- a tab, a newline or a carriage return
abbrev pub is_separator : ℕ → Bool
is_separator b = b == 9 || b == 10 || b == 13

-- the end of a text in quotes; n bytes stand before it, the opening quote among them
abbrev pub quotes_closed : ℕ → Piece
quotes_closed n = if n == 1 then WrongPiece 0 NoToken else Passed (suc n)

-- A text in quotes behind n of its bytes. `escaping` says that the last one is a `\` that stands for no byte by itself.
abbrev pub in_quotes : ℕ → Bool → ℕ → List ℕ → Piece
in_quotes q escaping n [] = WrongPiece 0 OpenQuote
in_quotes q true n (b ∷ bs) = if is_printable b then in_quotes q false (suc n) bs else WrongPiece n NoToken
in_quotes q false n (b ∷ bs) =
    if is_printable b
    then (if b == q then quotes_closed n else in_quotes q (b == 92) (suc n) bs)
    else WrongPiece n NoToken

-- a comment, as what stands at the front of a text
abbrev pub comment_piece : Scan → Piece
comment_piece (Blank n) = Passed n
comment_piece (Wrong n e) = WrongPiece n e
comment_piece s = WrongPiece 0 NoToken

abbrev pub byte_piece : ℕ → Piece
byte_piece b =
    if b == 40 then Opens Round
    else (if b == 41 then Closes Round
    else (if b == 91 then Opens Square
    else (if b == 93 then Closes Square
    else (if is_printable b then Passed 1 else WrongPiece 0 NoToken))))

-- what stands at the front in an annotation
abbrev pub piece_from : ℕ → List ℕ → Piece
piece_from b bs =
    if is_separator b then Separator
    else (if b == 34 || b == 39 then in_quotes b false 1 bs
    else (if b == 37 || b == 47 && begins 42 bs then comment_piece (scanned (b ∷ bs)) else byte_piece b))

unfoldable pub piece_of : List ℕ → Piece
piece_of [] = EndOfText
piece_of (b ∷ bs) = piece_from b bs

abbrev pub IsSizedPiece : Piece → ℕ → Type 0
IsSizedPiece EndOfText n = n ≡ 0
IsSizedPiece (Passed k) n = (1 ≤ k) × (k ≤ n)
IsSizedPiece (WrongPiece k e) n = k ≤ n
IsSizedPiece p n = 1 ≤ n
