-- How the readers of a body and of an annotation go on.
use Rattle.std.proofs.Common.{◌≡◌, ℕ, ◌-◌, Bool, true, false, leb, if◌then◌else◌, List, ◌∷◌, length, drop, Option, Some, None, Result, Ok, Err, refl, sym, ◌∙◌, ap}
use Rattle.fol.specs.Syntax.{Formula}
use Rattle.tptp_tokens.specs.declared.tokens.Token.{Token}
use Rattle.tptp_tokens.specs.declared.tokens.TextKind.{TextKind}
use Rattle.tptp_tokens.specs.declared.tokens.TextKind.TheVariants.{Expected, Deep}
use Rattle.tptp_tokens.specs.declared.tokens.Scan.{Scan}
use Rattle.tptp_tokens.specs.declared.tokens.Scan.TheVariants.{End, Blank, Found, Wrong}
use Rattle.tptp_tokens.specs.Lexer.{scanned}
use Rattle.tptp_read.specs.declared.state.Limits.{Limits}
use Rattle.tptp_read.specs.Reader.{Move, refused, goes, limited, bound_by, checked}
use Rattle.tptp_read.specs.Turns.{by_turn, stepped as token_stepped, unless, at_front}
use Rattle.tptp_read.specs.Machine.{Reading, move}
use Rattle.tptp_problem.specs.declared.errors.Fault.{Fault}
use Rattle.tptp_problem.specs.declared.errors.ReadError.{ReadError}
use Rattle.tptp_problem.specs.declared.errors.ReadError.TheVariants.{Memory as ReadMemory, Fault as ReadFault}
use Rattle.tptp_problem.specs.declared.errors.ProblemKind.{ProblemKind}
use Rattle.tptp_problem.specs.declared.errors.ProblemKind.TheVariants.{Text}
use Rattle.tptp_problem.specs.declared.annotations.Bracket.{Bracket}
use Rattle.tptp_problem.specs.declared.annotations.Closing.{Closing}
use Rattle.tptp_problem.specs.declared.annotations.Closing.TheVariants.{Refused, Ended, Inside}
use Rattle.tptp_problem.specs.declared.annotations.Piece.{Piece}
use Rattle.tptp_problem.specs.declared.annotations.Piece.TheVariants.{End as EndOfText, Separator, Passed, Opens, Closes, Wrong as WrongPiece}
use Rattle.tptp_problem.specs.declared.clause_places.ClausePlace.{ClausePlace}
use Rattle.tptp_problem.specs.declared.bodies.TheConstants.{ENTRY_LIMITS}
use Rattle.tptp_problem.specs.Pieces.{piece_of}
use Rattle.tptp_problem.specs.Readers.{Gives, fault, placed, passed, look_from}
use Rattle.tptp_problem.specs.BodyReader.{BodyReading, body_reading, body_meaning, unexpected, body_kind, places, stepped, body_step, body_ending, is_comma, ends_before, ended_by, at_place, body_move, closing, body_answers, body_from}
use Rattle.tptp_problem.specs.AnnotationReader.{closing as closing_of, outer_of, inside, at_closing, at_piece, annotation_from}
use Rattle.tptp_problem.proofs.BodyTexts.{BodyResult}
use Rattle.tptp_problem.proofs.BodyTexts as bodies
use Rattle.tptp_problem.proofs.AnnotationLaws as annotations

-- a step of a body is one of its reader
abbrev kinds : Option ClausePlace → Result BodyReading TextKind → Result BodyReading ProblemKind
kinds p (Ok s) = Ok s
kinds p (Err k) = Err (body_kind p k)

parts_step : (lim : Limits) (p : Option ClausePlace) (o : Option (Option ClausePlace)) (m : Move Reading) → stepped p o (checked lim m) ≡ kinds p (checked lim (at_place o m))
parts_step lim p None m = refl
parts_step lim p (Some q) refused = refl
parts_step lim p (Some q) (goes r) = refl
parts_step lim p (Some q) (limited x n r) =
    elim (leb n (bound_by lim x)) as (λ (b : Bool). stepped p (Some q) (if b then Ok r else Err Deep) ≡ kinds p (if b then Ok (body_reading q r) else Err Deep)) [ true ↦ refl | false ↦ refl ]

kind_ok : (n : ℕ) (p : Option ClausePlace) (x : Result BodyReading TextKind) (s : BodyReading) → placed n (kinds p x) ≡ Ok s → x ≡ Ok s
kind_ok n p (Ok z) s is = cc
kind_ok n p (Err k) s is = cc

kind_err : (n : ℕ) (p : Option ClausePlace) (x : Result BodyReading TextKind) (e : Fault) → placed n (kinds p x) ≡ Err e → (k : TextKind) × ((x ≡ Err k) × (fault n (body_kind p k) ≡ e))
kind_err n p (Ok z) e is = cc
kind_err n p (Err k) e is = (k, (refl, cc))

module _ (r : BodyReading) (bs front : List ℕ) (same : front ≡ passed 0 bs) where
  body_at_front : (s : Scan) → scanned (passed 0 bs) ≡ s → body_from r bs ≡ by_turn bodies.reading (at_front body_answers ENTRY_LIMITS body_move r (look_from front s))
  body_at_front s is = bodies.turns (r, bs) ∙ (λ i. by_turn bodies.reading (at_front body_answers ENTRY_LIMITS body_move r (look_from (sym same i) (is i))))

  pub body_end : (t : Token) (n : ℕ) → scanned (passed 0 bs) ≡ Found t n → ends_before r t ≡ true → body_from r bs ≡ ended_by (is_comma t) (drop n front) (placed (length front) (body_ending r))
  body_end t n is last = body_at_front (Found t n) is ∙ ap (λ (b : Bool). by_turn bodies.reading (unless (closing b r (length front) t (drop n front)) (token_stepped body_answers r (length front) (drop n front) (checked ENTRY_LIMITS (body_move r t))))) last

  -- a token that doesn't end it
  body_token : (t : Token) (n : ℕ) (x : Result BodyReading TextKind) → scanned (passed 0 bs) ≡ Found t n → ends_before r t ≡ false → checked ENTRY_LIMITS (body_move r t) ≡ x → body_from r bs ≡ by_turn bodies.reading (token_stepped body_answers r (length front) (drop n front) x)
  body_token t n x is off made = body_at_front (Found t n) is ∙ (λ i. by_turn bodies.reading (unless (closing (off i) r (length front) t (drop n front)) (token_stepped body_answers r (length front) (drop n front) (made i))))

  pub body_go_on : (s : BodyReading) (t : Token) (n : ℕ) → scanned (passed 0 bs) ≡ Found t n → ends_before r t ≡ false → placed (length front) (body_step ENTRY_LIMITS r t) ≡ Ok s → body_from r bs ≡ body_from s (drop n front)
  unfolding body_step
  body_go_on s t n is off made =
      body_token t n (Ok s) is off (kind_ok (length front) r.place (checked ENTRY_LIMITS (body_move r t)) s (ap (placed (length front)) (sym (parts_step ENTRY_LIMITS r.place (places r.place t) (move r.reading t))) ∙ made))

  pub body_stop : (t : Token) (n : ℕ) (e : Fault) → scanned (passed 0 bs) ≡ Found t n → ends_before r t ≡ false → placed (length front) (body_step ENTRY_LIMITS r t) ≡ Err e → body_from r bs ≡ Err e
  unfolding body_step
  body_stop t n e is off made =
      let (k, (stop, at)) = kind_err (length front) r.place (checked ENTRY_LIMITS (body_move r t)) e (ap (placed (length front)) (sym (parts_step ENTRY_LIMITS r.place (places r.place t) (move r.reading t))) ∙ made) in
      body_token t n (Err k) is off stop ∙ ap (λ (f : Fault). Err f) at

  pub body_wrong : (n : ℕ) (e : TextKind) → scanned (passed 0 bs) ≡ Wrong n e → body_from r bs ≡ Err (fault (length front - n) (Text e))
  body_wrong n e is = body_at_front (Wrong n e) is

  pub body_missing : scanned (passed 0 bs) ≡ End → body_from r bs ≡ Err (fault (length front) (unexpected r.place))
  body_missing is = body_at_front End is

  pub body_blank : (n : ℕ) → scanned (passed 0 bs) ≡ Blank n → body_from r bs ≡ Err (fault (length front) (unexpected r.place))
  body_blank n is = body_at_front (Blank n) is

  -- the error of a token is that of the whole body
  pub body_error_on : (scan : Scan) (t : Token) (n : ℕ) (b : Bool) (e : ReadError) (whole : BodyResult) → scan ≡ scanned (passed 0 bs) → scan ≡ Found t n → b ≡ ends_before r t → b ≡ false → Gives body_meaning (Err e) (placed (length front) (body_step ENTRY_LIMITS r t)) → body_from r bs ≡ whole → Gives (λ (x : Formula × Bool × List ℕ). x) (Err e) whole
  body_error_on scan t n b ReadMemory whole value is ends off made back = tt
  body_error_on scan t n b (ReadFault e) whole value is ends off made back = sym back ∙ body_stop t n e (sym value ∙ is) (sym ends ∙ off) made

-- annotations
module _ (inner : List Bracket) (some : Bool) (bs : List ℕ) where
  piece_at : (p : Piece) → piece_of bs ≡ p → annotation_from inner some bs ≡ by_turn annotations.reading (at_piece p inner some bs)
  piece_at p is = annotations.turns (inside inner some bs) ∙ ap (λ (q : Piece). by_turn annotations.reading (at_piece q inner some bs)) is

  closing_at : (o : Bracket) (c : Closing) → piece_of bs ≡ Closes o → closing_of o inner some ≡ c → annotation_from inner some bs ≡ by_turn annotations.reading (at_closing c inner some bs)
  closing_at o c is does = piece_at (Closes o) is ∙ ap (λ (d : Closing). by_turn annotations.reading (at_closing d inner some bs)) does

  pub annotation_end : piece_of bs ≡ EndOfText → annotation_from inner some bs ≡ Err (fault 0 (Text Expected))
  annotation_end is = piece_at EndOfText is

  pub annotation_separator : piece_of bs ≡ Separator → annotation_from inner some bs ≡ annotation_from inner some (drop 1 bs)
  annotation_separator is = piece_at Separator is

  pub annotation_passed : (n : ℕ) → piece_of bs ≡ Passed n → annotation_from inner some bs ≡ annotation_from inner true (drop n bs)
  annotation_passed n is = piece_at (Passed n) is

  pub annotation_opens : (o : Bracket) → piece_of bs ≡ Opens o → annotation_from inner some bs ≡ annotation_from (o ∷ inner) true (drop 1 bs)
  annotation_opens o is = piece_at (Opens o) is

  pub annotation_refused : (o : Bracket) → piece_of bs ≡ Closes o → closing_of o inner some ≡ Refused → annotation_from inner some bs ≡ Err (fault (length bs) (Text Expected))
  annotation_refused o is does = closing_at o Refused is does

  pub annotation_ended : (o : Bracket) → piece_of bs ≡ Closes o → closing_of o inner some ≡ Ended → annotation_from inner some bs ≡ Ok (drop 1 bs)
  annotation_ended o is does = closing_at o Ended is does

  pub annotation_inside : (o : Bracket) → piece_of bs ≡ Closes o → closing_of o inner some ≡ Inside → annotation_from inner some bs ≡ annotation_from (outer_of inner) some (drop 1 bs)
  annotation_inside o is does = closing_at o Inside is does

  pub annotation_wrong : (n : ℕ) (e : TextKind) → piece_of bs ≡ WrongPiece n e → annotation_from inner some bs ≡ Err (fault (length bs - n) (Text e))
  annotation_wrong n e is = piece_at (WrongPiece n e) is
