-- What a reader of annotations reads is an annotation.
use Rattle.std.proofs.Common.{◌≡◌, ℕ, suc, ◌+◌, ◌-◌, ◌<◌, ◌≤◌, ◌==◌, Bool, true, false, ◌&&◌, ◌||◌, if◌then◌else◌, List, [], ◌∷◌, length, drop, length-drop, Result, Ok, Err, refl, sym, ◌∙◌, ap, subst, arith}
use Rattle.fol.specs.Formed.{is_printable}
use Rattle.tptp_tokens.specs.declared.tokens.TextKind.TheVariants.{Token as NoToken, Expected}
use Rattle.tptp_tokens.specs.declared.tokens.Scan.{Scan}
use Rattle.tptp_tokens.specs.declared.tokens.Scan.TheVariants.{End, Blank, Found, Wrong}
use Rattle.tptp_tokens.specs.Lexer.{scanned, IsSized, begins}
use Rattle.tptp_read.specs.Turns.{on, answer, by_turn, Leads, here, behind}
use Rattle.tptp_read.proofs.TurnLaw.{MatchTurn, leads_on, whole_turn, answers, says_by}
use Rattle.tptp_problem.specs.declared.errors.Fault.{Fault}
use Rattle.tptp_problem.specs.declared.errors.ProblemKind.{ProblemKind}
use Rattle.tptp_problem.specs.declared.errors.ProblemKind.TheVariants.{Text}
use Rattle.tptp_problem.specs.declared.annotations.Bracket.{Bracket}
use Rattle.tptp_problem.specs.declared.annotations.Bracket.TheVariants.{Round, Square}
use Rattle.tptp_problem.specs.declared.annotations.Closing.{Closing}
use Rattle.tptp_problem.specs.declared.annotations.Closing.TheVariants.{Refused, Ended, Inside}
use Rattle.tptp_problem.specs.declared.annotations.Piece.{Piece}
use Rattle.tptp_problem.specs.declared.annotations.Piece.TheVariants.{End as EndOfText, Separator, Passed, Opens, Closes, Wrong as WrongPiece}
use Rattle.tptp_problem.specs.Readers.{fault}
use Rattle.tptp_problem.specs.Pieces.{is_separator, quotes_closed, in_quotes, comment_piece, byte_piece, piece_of, IsSizedPiece}
use Rattle.tptp_problem.specs.AnnotationReader.{closing, outer_of, Inner, inside, at_closing, at_piece, annotation_turn, annotation_from, annotation_at}
use Rattle.tptp_problem.specs.AnnotationTexts.{ArePieces, no_piece, separator, plain, group, IsAnnotation, IsAnnotationFront, outside, opened, FitsNot, other_open, none_open, no_piece_before, IsAnnotationFault, at_end, at_bracket, at_bytes}
use Rattle.tptp_problem.proofs.Sizes.{scanned_sized}

-- sizes of pieces
chosen : (m : ℕ) (b : Bool) (x y : Piece) → (b ≡ true → IsSizedPiece x m) → (b ≡ false → IsSizedPiece y m) → IsSizedPiece (if b then x else y) m
chosen m true x y f g = f refl
chosen m false x y f g = g refl

closed_sized : (n m : ℕ) → suc n ≤ m → IsSizedPiece (quotes_closed n) m
closed_sized n m fits = chosen m (n == 1) (WrongPiece 0 NoToken) (Passed (suc n)) (λ is. omega arith) (λ is. (omega arith, fits))

quotes_sized : (bs : List ℕ) (q : ℕ) (escaping : Bool) (n m : ℕ) → n + length bs ≤ m → IsSizedPiece (in_quotes q escaping n bs) m
quotes_sized [] q true n m fits = omega arith
quotes_sized [] q false n m fits = omega arith
quotes_sized (b ∷ bs) q true n m fits = chosen m (is_printable b) (in_quotes q false (suc n) bs) (WrongPiece n NoToken) (λ is. quotes_sized bs q false (suc n) m (omega arith)) (λ is. omega arith)
quotes_sized (b ∷ bs) q false n m fits =
    chosen m (is_printable b) (if b == q then quotes_closed n else in_quotes q (b == 92) (suc n) bs) (WrongPiece n NoToken)
    (λ is. chosen m (b == q) (quotes_closed n) (in_quotes q (b == 92) (suc n) bs) (λ on. closed_sized n m (omega arith)) (λ off. quotes_sized bs q (b == 92) (suc n) m (omega arith))) (λ is. omega arith)

comment_sized : (s : Scan) (m : ℕ) → IsSized s (suc m) → IsSizedPiece (comment_piece s) (suc m)
comment_sized End m size = omega arith
comment_sized (Blank n) m size = size
comment_sized (Found t n) m size = omega arith
comment_sized (Wrong n e) m size = size

byte_sized : (b m : ℕ) → 1 ≤ m → IsSizedPiece (byte_piece b) m
byte_sized b m some =
    chosen m (b == 40) (Opens Round) _ (λ is. some) (λ is. chosen m (b == 41) (Closes Round) _ (λ is. some) (λ is. chosen m (b == 91) (Opens Square) _ (λ is. some)
    (λ is. chosen m (b == 93) (Closes Square) _ (λ is. some) (λ is. chosen m (is_printable b) (Passed 1) (WrongPiece 0 NoToken) (λ is. (omega arith, some)) (λ is. omega arith)))))

pub piece_sized : (bs : List ℕ) → IsSizedPiece (piece_of bs) (length bs)
unfolding piece_of
piece_sized [] = refl
piece_sized (b ∷ bs) =
    chosen (suc (length bs)) (is_separator b) Separator _ (λ is. omega arith) (λ is. chosen (suc (length bs)) (b == 34 || b == 39) (in_quotes b false 1 bs) _ (λ is. quotes_sized bs b false 1 (suc (length bs)) (omega arith))
    (λ is. chosen (suc (length bs)) (b == 37 || b == 47 && begins 42 bs) (comment_piece (scanned (b ∷ bs))) (byte_piece b) (λ is. comment_sized (scanned (b ∷ bs)) (length bs) (scanned_sized (b ∷ bs))) (λ is. byte_sized b (suc (length bs)) (omega arith))))

end_piece : piece_of [] ≡ EndOfText
unfolding piece_of
end_piece = refl

no_bytes : (cs : List ℕ) → piece_of cs ≡ EndOfText → cs ≡ []
no_bytes [] is = refl
no_bytes (c ∷ cs) is = let size : suc (length cs) ≡ 0 = subst (λ (p : Piece). IsSizedPiece p (suc (length cs))) is (piece_sized (c ∷ cs)) in absurd (omega arith)

abbrev AnnotationResult : Type 0
AnnotationResult = Result (List ℕ) Fault

-- each turn takes a byte at least
closing_smaller : (c : Closing) (inner : List Bracket) (some : Bool) (bs : List ℕ) (d : Inner) → 1 ≤ length bs → at_closing c inner some bs ≡ on d → length d.rest < length bs
closing_smaller Refused inner some bs d size is = cc
closing_smaller Ended inner some bs d size is = cc
closing_smaller Inside inner some bs d size is = let same : inside (outer_of inner) some (drop 1 bs) ≡ d = cc in subst (λ (e : Inner). length e.rest < length bs) same (omega (arith, length-drop 1 bs))

piece_smaller : (p : Piece) (inner : List Bracket) (some : Bool) (bs : List ℕ) (d : Inner) → IsSizedPiece p (length bs) → at_piece p inner some bs ≡ on d → length d.rest < length bs
piece_smaller EndOfText inner some bs d size is = cc
piece_smaller Separator inner some bs d size is = let same : inside inner some (drop 1 bs) ≡ d = cc in subst (λ (e : Inner). length e.rest < length bs) same (omega (arith, size, length-drop 1 bs))
piece_smaller (Passed n) inner some bs d size is = let same : inside inner true (drop n bs) ≡ d = cc in subst (λ (e : Inner). length e.rest < length bs) same (omega (arith, size.0, size.1, length-drop n bs))
piece_smaller (Opens o) inner some bs d size is = let same : inside (o ∷ inner) true (drop 1 bs) ≡ d = cc in subst (λ (e : Inner). length e.rest < length bs) same (omega (arith, size, length-drop 1 bs))
piece_smaller (Closes o) inner some bs d size is = closing_smaller (closing o inner some) inner some bs d size is
piece_smaller (WrongPiece n e) inner some bs d size is = cc

pub smaller : (c d : Inner) → annotation_turn c ≡ on d → length d.rest < length c.rest
smaller c d is = piece_smaller (piece_of c.rest) c.open_ones c.some c.rest d (piece_sized c.rest) is

abbrev pub reading : Inner → AnnotationResult
reading c = annotation_from c.open_ones c.some c.rest

pub turns : (c : Inner) → reading c ≡ by_turn reading (annotation_turn c)
turns c = whole_turn annotation_turn (Err (fault 0 (Text Expected))) (λ e. length e.rest) smaller c

-- a bracket that doesn't fit is refused
refuses : (o : Bracket) (inner : List Bracket) (some : Bool) → FitsNot o inner some → closing o inner some ≡ Refused
refuses Round inner some (other_open Round outer before apart) = absurd (apart refl)
refuses Round inner some (other_open Square outer before apart) = refl
refuses Square inner some (other_open Round outer before apart) = refl
refuses Square inner some (other_open Square outer before apart) = absurd (apart refl)
refuses Round inner some (none_open before is) = cc
refuses Square inner some (none_open before is) = refl
refuses Round inner some no_piece_before = refl
refuses Square inner some no_piece_before = refl

no_fit : (o : Bracket) (inner : List Bracket) (some : Bool) → closing o inner some ≡ Refused → FitsNot o inner some
no_fit Round (Round ∷ outer) some is = cc
no_fit Round (Square ∷ outer) some is = other_open Square outer some (λ same. cc)
no_fit Square (Round ∷ outer) some is = other_open Round outer some (λ same. cc)
no_fit Square (Square ∷ outer) some is = cc
no_fit Round [] true is = cc
no_fit Round [] false is = no_piece_before
no_fit Square [] some is = none_open some refl

-- what is read is pieces
pieces_more : (bs cs ds : List ℕ) (some more : Bool) → ArePieces bs some cs → ArePieces cs more ds → ArePieces bs (some || more) ds
pieces_more bs cs ds some more (no_piece es) rest = rest
pieces_more bs cs ds some more (separator es zs before is pieces) rest = separator es ds (before || more) is (pieces_more (drop 1 es) zs ds before more pieces rest)
pieces_more bs cs ds some more (plain n es zs before is pieces) rest = plain n es ds (before || more) is (pieces_more (drop n es) zs ds before more pieces rest)
pieces_more bs cs ds some more (group o es zs ws before last is within shut pieces) rest = group o es zs ds before (last || more) is within shut (pieces_more (drop 1 zs) ws ds last more pieces rest)

front_more : (bs : List ℕ) (inner : List Bracket) (some more : Bool) (cs ds : List ℕ) → IsAnnotationFront bs inner some cs → ArePieces cs more ds → IsAnnotationFront bs inner (some || more) ds
front_more bs inner some more cs ds (outside before es pieces) rest = outside (before || more) ds (pieces_more bs es ds before more pieces rest)
front_more bs inner some more cs ds (opened o outer before last es zs front is pieces) rest = opened o outer before (last || more) es ds front is (pieces_more (drop 1 es) zs ds last more pieces rest)

or_true : (b : Bool) → (b || true) ≡ true
or_true true = refl
or_true false = refl

or_false : (b : Bool) → (b || false) ≡ b
or_false true = refl
or_false false = refl

module _ (whole : List ℕ) where
  abbrev Front : Inner → Type 0
  Front c = IsAnnotationFront whole c.open_ones c.some c.rest

  -- how the front grows
  same_bracket : (o p : Bracket) (outer : List Bracket) (some : Bool) → closing o (p ∷ outer) some ≡ Inside → o ≡ p
  same_bracket Round Round outer some is = refl
  same_bracket Round Square outer some is = cc
  same_bracket Square Round outer some is = cc
  same_bracket Square Square outer some is = refl

  none_inside : (o : Bracket) (some : Bool) → closing o [] some ≡ Inside → ⊥
  none_inside Round true is = cc
  none_inside Round false is = cc
  none_inside Square some is = cc

  behind_inside : (inner : List Bracket) (some : Bool) (o : Bracket) (cs : List ℕ) → IsAnnotationFront whole inner some cs → piece_of cs ≡ Closes o → closing o inner some ≡ Inside → IsAnnotationFront whole (outer_of inner) some (drop 1 cs)
  behind_inside inner some o cs (outside before es pieces) is does = absurd (none_inside o before does)
  behind_inside inner some o cs (opened p outer before more ds es front at pieces) is does =
      let shut : piece_of es ≡ Closes p = is ∙ ap (λ (q : Bracket). Closes q) (same_bracket o p outer true does) in
      subst (λ (b : Bool). IsAnnotationFront whole outer b (drop 1 es)) (or_true before) (front_more whole outer before true ds (drop 1 es) front (group p ds es (drop 1 es) more false at pieces shut (no_piece (drop 1 es))))

  ended : (inner : List Bracket) (some : Bool) (o : Bracket) (cs : List ℕ) → IsAnnotationFront whole inner some cs → piece_of cs ≡ Closes o → closing o inner some ≡ Ended → IsAnnotation whole (drop 1 cs)
  ended inner some Round cs (outside true es pieces) is does = record { closing = es; pieces = pieces; closes = is; behind = refl }
  ended inner some Round cs (outside false es pieces) is does = cc
  ended inner some Square cs (outside before es pieces) is does = cc
  ended inner some Round cs (opened Round outer before more ds es front at pieces) is does = cc
  ended inner some Round cs (opened Square outer before more ds es front at pieces) is does = cc
  ended inner some Square cs (opened Round outer before more ds es front at pieces) is does = cc
  ended inner some Square cs (opened Square outer before more ds es front at pieces) is does = cc

  -- what an answer says of the annotation; and what a turn does
  abbrev pub SaysAnnotation : AnnotationResult → Type 0
  SaysAnnotation (Ok rest) = IsAnnotation whole rest
  SaysAnnotation (Err e) = IsAnnotationFault whole e.left e.kind

  turned : (p : Piece) (inner : List Bracket) (some : Bool) (cs : List ℕ) → IsAnnotationFront whole inner some cs → piece_of cs ≡ p → MatchTurn (at_piece p inner some cs) Front SaysAnnotation
  turned EndOfText inner some cs front is = at_end inner some (subst (IsAnnotationFront whole inner some) (no_bytes cs is) front)
  turned Separator inner some cs front is =
      subst (λ (b : Bool). IsAnnotationFront whole inner b (drop 1 cs)) (or_false some) (front_more whole inner some false cs (drop 1 cs) front (separator cs (drop 1 cs) false is (no_piece (drop 1 cs))))
  turned (Passed n) inner some cs front is =
      subst (λ (b : Bool). IsAnnotationFront whole inner b (drop n cs)) (or_true some) (front_more whole inner some true cs (drop n cs) front (plain n cs (drop n cs) false is (no_piece (drop n cs))))
  turned (Opens o) inner some cs front is = opened o inner some false cs (drop 1 cs) front is (no_piece (drop 1 cs))
  turned (Closes o) inner some cs front is =
      elim (closing o inner some) as (λ (c : Closing). closing o inner some ≡ c → MatchTurn (at_closing c inner some cs) Front SaysAnnotation) [
        | Refused ↦ λ does. at_bracket inner some cs o front is (no_fit o inner some does)
        | Ended ↦ λ does. ended inner some o cs front is does
        | Inside ↦ λ does. behind_inside inner some o cs front is does
      ] refl
  turned (WrongPiece n e) inner some cs front is = at_bytes inner some cs n e front is

  pub annotation_says : SaysAnnotation (annotation_at whole)
  unfolding annotation_at
  annotation_says =
      says_by annotation_turn reading turns (λ c. length c.rest) smaller Front SaysAnnotation (λ c front. turned (piece_of c.rest) c.open_ones c.some c.rest front refl) (inside [] false whole) (outside false whole (no_piece whole))

-- pieces are read
pieces_lead : (bs : List ℕ) (some : Bool) (cs : List ℕ) → ArePieces bs some cs → (inner : List Bracket) (before : Bool) → Leads annotation_turn (inside inner before bs) (inside inner (before || some) cs)
pieces_lead bs some cs (no_piece ds) inner before = subst (λ (b : Bool). Leads annotation_turn (inside inner before ds) (inside inner b ds)) (sym (or_false before)) (here (inside inner before ds))
pieces_lead bs some cs (separator ds es more is rest) inner before =
    behind (inside inner before ds) (inside inner before (drop 1 ds)) (inside inner (before || more) es) (ap (λ (p : Piece). at_piece p inner before ds) is) (pieces_lead (drop 1 ds) more es rest inner before)
pieces_lead bs some cs (plain n ds es more is rest) inner before =
    subst (λ (b : Bool). Leads annotation_turn (inside inner before ds) (inside inner b es)) (sym (or_true before))
    (behind (inside inner before ds) (inside inner true (drop n ds)) (inside inner true es) (ap (λ (p : Piece). at_piece p inner before ds) is) (pieces_lead (drop n ds) more es rest inner true))
pieces_lead bs some cs (group o ds es zs more last is within shut rest) inner before =
    subst (λ (b : Bool). Leads annotation_turn (inside inner before ds) (inside inner b zs)) (sym (or_true before))
    (behind (inside inner before ds) (inside (o ∷ inner) true (drop 1 ds)) (inside inner true zs) (ap (λ (p : Piece). at_piece p inner before ds) is)
    (leads_on annotation_turn (inside (o ∷ inner) true (drop 1 ds)) (inside (o ∷ inner) true es) (inside inner true zs) (pieces_lead (drop 1 ds) more es within (o ∷ inner) true)
    (behind (inside (o ∷ inner) true es) (inside inner true (drop 1 es)) (inside inner true zs) (ap (λ (p : Piece). at_piece p (o ∷ inner) true es) shut ∙ ap (λ (c : Closing). at_closing c (o ∷ inner) true es) (fits o inner true)) (pieces_lead (drop 1 es) last zs rest inner true))))
  where
    fits : (o : Bracket) (outer : List Bracket) (some : Bool) → closing o (o ∷ outer) some ≡ Inside
    fits Round outer some = refl
    fits Square outer some = refl

front_lead : (bs : List ℕ) (inner : List Bracket) (some : Bool) (cs : List ℕ) → IsAnnotationFront bs inner some cs → Leads annotation_turn (inside [] false bs) (inside inner some cs)
front_lead bs inner some cs (outside more ds pieces) = pieces_lead bs more ds pieces [] false
front_lead bs inner some cs (opened o outer before more ds es front is pieces) =
    leads_on annotation_turn (inside [] false bs) (inside outer before ds) (inside (o ∷ outer) true es) (front_lead bs outer before ds front)
    (behind (inside outer before ds) (inside (o ∷ outer) true (drop 1 ds)) (inside (o ∷ outer) true es) (ap (λ (p : Piece). at_piece p outer before ds) is) (pieces_lead (drop 1 ds) more es pieces (o ∷ outer) true))

answered_there : (bs : List ℕ) (inner : List Bracket) (some : Bool) (cs : List ℕ) (r : AnnotationResult) → IsAnnotationFront bs inner some cs → annotation_turn (inside inner some cs) ≡ answer r → annotation_at bs ≡ r
unfolding annotation_at
answered_there bs inner some cs r front is = answers annotation_turn reading turns (inside [] false bs) r (record { place = inside inner some cs; leads = front_lead bs inner some cs front; given = is })

pub annotation_complete : (bs rest : List ℕ) → IsAnnotation bs rest → annotation_at bs ≡ Ok rest
annotation_complete bs rest is =
    answered_there bs [] true is.closing (Ok rest) (outside true is.closing is.pieces) (ap (λ (p : Piece). at_piece p [] true is.closing) is.closes ∙ ap (λ (cs : List ℕ). answer (Ok cs)) (sym is.behind))

pub annotation_blamed : (bs : List ℕ) (n : ℕ) (k : ProblemKind) → IsAnnotationFault bs n k → annotation_at bs ≡ Err (fault n k)
annotation_blamed bs n k (at_end inner some front) = answered_there bs inner some [] (Err (fault 0 (Text Expected))) front (ap (λ (p : Piece). at_piece p inner some []) end_piece)
annotation_blamed bs n k (at_bracket inner some cs o front is apart) =
    answered_there bs inner some cs (Err (fault (length cs) (Text Expected))) front (ap (λ (p : Piece). at_piece p inner some cs) is ∙ ap (λ (c : Closing). at_closing c inner some cs) (refuses o inner some apart))
annotation_blamed bs n k (at_bytes inner some cs m e front is) = answered_there bs inner some cs (Err (fault (length cs - m) (Text e))) front (ap (λ (p : Piece). at_piece p inner some cs) is)
