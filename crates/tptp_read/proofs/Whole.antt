-- What the reading of a text gives is what the grammar says of the text.
use Rattle.std.proofs.Common.{◌≡◌, ℕ, suc, ◌<◌, ◌≤◌, List, ◌∷◌, Option, Some, None, Result, Ok, Err, IfOk, MatchResult, ◌↔◌, refl, sym, ◌∙◌, ap, subst, arith}
use Rattle.fol.specs.Syntax.{Term, Formula}
use Rattle.tptp_tokens.specs.declared.tokens.Token.{Token}
use Rattle.tptp_tokens.specs.declared.tokens.TextKind.{TextKind}
use Rattle.tptp_tokens.specs.declared.tokens.TextKind.TheVariants.{Expected}
use Rattle.tptp_tokens.specs.declared.tokens.TextFault.{TextFault}
use Rattle.tptp_tokens.specs.Stream.{Stream, next, ends as stream_ends, bad as stream_bad, stream_of, Begins, here, behind}
use Rattle.tptp_read.specs.declared.errors.TextError.{TextError}
use Rattle.tptp_read.specs.declared.errors.TextError.TheVariants.{Memory as TextMemory, Text}
use Rattle.tptp_read.specs.declared.state.Limits.{Limits}
use Rattle.tptp_read.specs.declared.state.Outcome.{Outcome}
use Rattle.tptp_read.specs.declared.state.Outcome.TheVariants.{Formula as FormulaRead, Term as TermRead}
use Rattle.tptp_read.specs.declared.state.TheConstants.{LIMITS}
use Rattle.tptp_read.specs.Given.{GivesText, IfFault}
use Rattle.tptp_read.specs.Grammar.{Sort, formulas, terms, Reads}
use Rattle.tptp_read.specs.Reader.{or_expected, ◌>>=◌}
use Rattle.tptp_read.specs.Turns.{Turn, on, answer, by_turn, Look, token, ends, bad, Passes, no_token, more_tokens, Answers, stepped, token_turn}
use Rattle.tptp_read.specs.Machine.{Reading, start, move, step, meant, ending, after}
use Rattle.tptp_read.specs.Texts.{IsText, Blames, IsFirstFault, IsFormulaText, IsTermText, IsFormulaFault, IsTermFault, placed, read, formula_in, term_in, formula_reading, term_reading}
use Rattle.tptp_read.proofs.ReaderLaw.{ends_here, any_front, clean, clean_leads, because, stops}
use Rattle.tptp_read.proofs.TurnLaw.{answers, answered, front_on, tokens_of, tokens_lead}
use Rattle.tptp_read.proofs.Fronts.{is_reader}

abbrev look : Stream → Look Stream
look (next at t st) = token at t st
look (stream_ends at) = ends at
look (stream_bad at k) = bad at k

looked : (x y : Stream) (at : ℕ) (t : Token) → look x ≡ token at t y → x ≡ next at t y
looked (next at' t' st) y at t is = cc
looked (stream_ends at') y at t is = cc
looked (stream_bad at' k) y at t is = cc

abbrev left : Stream → ℕ
left (next at t st) = suc (left st)
left (stream_ends at) = 0
left (stream_bad at k) = 0

passes : (x y : Stream) (ts : List Token) → Begins x ts y → Passes look x ts y
passes x y ts (here x') = no_token x'
passes x y ts (behind at t x' y' us rest) = more_tokens (next at t x') x' y' at t us refl (passes x' y' us rest)

begins : (x y : Stream) (ts : List Token) → Passes look x ts y → Begins x ts y
begins x y ts (no_token x') = here x'
begins x y ts (more_tokens x' w y' at t us is rest) = subst (λ (z : Stream). Begins z (t ∷ us) y') (sym (looked x' w at t is)) (behind at t w y' us (begins w y' us rest))

abbrev TextResult : Type 0
TextResult = Result Outcome TextFault

abbrev text_answers : Answers Reading Stream TextResult
text_answers = record { closes = λ s at t y. None; stops = λ s at k. Err (record { at = at; kind = k }); ends_text = λ s at. placed at (ending s); breaks = λ at k. Err (record { at = at; kind = k }) }

module _ (lim : Limits) where
  abbrev turn : Reading × Stream → Turn (Reading × Stream) TextResult
  turn c = token_turn text_answers lim move look c

  abbrev read_at : Reading × Stream → TextResult
  read_at c = read lim c.0 c.1

  stepping : (s : Reading) (at : ℕ) (y : Stream) (x : Result Reading TextKind) → (placed at x >>= λ (z : Reading). read lim z y) ≡ by_turn read_at (stepped text_answers s at y x)
  stepping s at y (Ok z) = refl
  stepping s at y (Err k) = refl

  turns : (s : Reading) (x : Stream) → read lim s x ≡ by_turn read_at (turn (s, x))
  turns s (next at t y) = stepping s at y (step lim s t)
  turns s (stream_ends at) = refl
  turns s (stream_bad at k) = refl

  smaller : (c d : Reading × Stream) → turn c ≡ on d → left d.1 < left c.1
  smaller c d is = let (at, (t, (stands, made))) = front_on text_answers lim move look c.0 (look c.1) d is in rw (looked c.1 d.1 at t stands) (omega arith)

  module _ (some : 1 ≤ lim.variables) (sort : Sort) (x : Stream) where
    -- what the grammar says of an answer
    abbrev Holds : TextResult → Type 0
    Holds (Ok w) = IsText lim sort x w
    Holds (Err e) = IsFirstFault lim sort x e

    module _ (ts : List Token) (s : Reading) (leads : after lim (start sort) ts ≡ Ok s) where
      fault_is : (y : Stream) → Begins x ts y → (e : TextFault) → Blames lim sort ts y e → IsFirstFault lim sort x e
      fault_is y split e blames = record {
        before = ts;
        rest = y;
        split = split;
        front = any_front (is_reader sort) lim ts s leads;
        clean = clean (is_reader sort) lim some ts s leads;
        blames = blames;
      }

      says_step : (at : ℕ) (t : Token) (y : Stream) → Begins x ts (next at t y) → (z : Result Reading TextKind) → step lim s t ≡ z → (r : TextResult) → stepped text_answers s at y z ≡ answer r → Holds r
      says_step at t y split (Ok z) made r is = cc
      says_step at t y split (Err k) made r is =
          let same : Err (record { at = at; kind = k }) ≡ r = cc in
          subst Holds same (fault_is (next at t y) split (record { at = at; kind = k }) (refl, because (is_reader sort) lim ts t s leads k made))

      no_text : meant s ≡ None → (w : Outcome) → Reads lim sort ts w → ⊥
      no_text none w d = let is : meant s ≡ Some w = ends_here (is_reader sort) lim ts s w leads d in cc

      says_end : (at : ℕ) → Begins x ts (stream_ends at) → (o : Option Outcome) → meant s ≡ o → Holds (placed at (or_expected o))
      says_end at split None is = fault_is (stream_ends at) split (record { at = at; kind = Expected }) (refl, (refl, no_text is))
      says_end at split (Some w) is = record { tokens = ts; length = at; whole = split; reads = (is_reader sort).sound lim ts s w leads is }

      says : (y : Stream) → Begins x ts y → (r : TextResult) → turn (s, y) ≡ answer r → Holds r
      says (next at t y) split r given = says_step at t y split (step lim s t) refl r given
      says (stream_ends at) split r given = let same : placed at (ending s) ≡ r = cc in subst Holds same (says_end at split (meant s) refl)
      says (stream_bad at k) split r given = let same : Err (record { at = at; kind = k }) ≡ r = cc in subst Holds same (fault_is (stream_bad at k) split (record { at = at; kind = k }) (refl, refl))

      -- what is blamed is answered
      blamed : (y : Stream) (e : TextFault) → Blames lim sort ts y e → turn (s, y) ≡ answer (Err e)
      blamed (next at t y) e (place, cause) =
          ap (stepped text_answers s at y) (stops (is_reader sort) lim ts t s leads some e.kind cause) ∙ (λ i. answer (Err (record { at = sym place i; kind = e.kind })))
      blamed (stream_ends at) e (place, (kind, none)) =
          ap (λ (o : Option Outcome). answer (placed at (or_expected o))) (no_meaning (meant s) refl) ∙ (λ i. answer (Err (record { at = sym place i; kind = sym kind i })))
        where
          no_meaning : (o : Option Outcome) → meant s ≡ o → o ≡ None
          no_meaning None is = refl
          no_meaning (Some w) is = absurd (none w ((is_reader sort).sound lim ts s w leads is))
      blamed (stream_bad at k) e (place, kind) = λ i. answer (Err (record { at = sym place i; kind = sym kind i }))

      there : (y : Stream) → Begins x ts y → (r : TextResult) → turn (s, y) ≡ answer r → read lim (start sort) x ≡ r
      there y split r given =
          answers turn read_at (λ c. turns c.0 c.1) (start sort, x) r (record { place = (s, y); leads = tokens_lead text_answers lim move look (λ q z at t u made. refl) (start sort) s x y ts (passes x y ts split) leads; given = given })

    pub reading_holds : (r : TextResult) → read lim (start sort) x ≡ r → Holds r
    reading_holds r is =
        let a = answered turn read_at (λ c. turns c.0 c.1) (λ c. left c.1) smaller (start sort, x) in
        let (ts, (found, leads)) = tokens_of text_answers lim move look (start sort, x) a.place a.leads in
        says ts a.place.0 leads a.place.1 (begins x a.place.1 ts found) r (a.given ∙ ap answer is)

    pub holds_reading : (r : TextResult) → Holds r → read lim (start sort) x ≡ r
    holds_reading (Ok w) text =
        let (s, (leads, is)) = (is_reader sort).complete lim text.tokens w text.reads in
        there text.tokens s leads (stream_ends text.length) text.whole (Ok w) (ap (λ (o : Option Outcome). answer (placed text.length (or_expected o))) is)
    holds_reading (Err e) fault =
        let (s, leads) = clean_leads (is_reader sort) lim fault.before fault.front fault.clean in
        there fault.before s leads fault.rest fault.split (Err e) (blamed fault.before s leads fault.rest e fault.blames)

some_variables : 1 ≤ LIMITS.variables
some_variables = omega arith

-- A reading that answers exactly what holds of a text.
abbrev pub IsExact : {X : Type 0} → Result X TextFault → (X → Type 0) → (TextFault → Type 0) → Type 0
IsExact {X} reading Is Fails = (r : Result X TextFault) → (reading ≡ r) ↔ MatchResult r Is Fails

pub exact_formula : (bytes : List ℕ) → IsExact (formula_reading bytes) (IsFormulaText bytes) (IsFormulaFault bytes)
unfolding formula_reading
exact_formula bytes r = (λ is. subst (λ (q : Result Formula TextFault). MatchResult q (IsFormulaText bytes) (IsFormulaFault bytes)) is (says (read LIMITS (start formulas) (stream_of bytes)) refl), tells r)
  where
    says : (q : TextResult) → read LIMITS (start formulas) (stream_of bytes) ≡ q → MatchResult (formula_in q) (IsFormulaText bytes) (IsFormulaFault bytes)
    says (Ok (FormulaRead f)) is = reading_holds LIMITS some_variables formulas (stream_of bytes) (Ok (FormulaRead f)) is
    says (Ok (TermRead t)) is = absurd (reading_holds LIMITS some_variables formulas (stream_of bytes) (Ok (TermRead t)) is).reads
    says (Err e) is = reading_holds LIMITS some_variables formulas (stream_of bytes) (Err e) is

    tells : (q : Result Formula TextFault) → MatchResult q (IsFormulaText bytes) (IsFormulaFault bytes) → formula_in (read LIMITS (start formulas) (stream_of bytes)) ≡ q
    tells (Ok f) h = ap formula_in (holds_reading LIMITS some_variables formulas (stream_of bytes) (Ok (FormulaRead f)) h)
    tells (Err e) h = ap formula_in (holds_reading LIMITS some_variables formulas (stream_of bytes) (Err e) h)

pub exact_term : (bytes : List ℕ) → IsExact (term_reading bytes) (IsTermText bytes) (IsTermFault bytes)
unfolding term_reading
exact_term bytes r = (λ is. subst (λ (q : Result Term TextFault). MatchResult q (IsTermText bytes) (IsTermFault bytes)) is (says (read LIMITS (start terms) (stream_of bytes)) refl), tells r)
  where
    says : (q : TextResult) → read LIMITS (start terms) (stream_of bytes) ≡ q → MatchResult (term_in q) (IsTermText bytes) (IsTermFault bytes)
    says (Ok (TermRead t)) is = reading_holds LIMITS some_variables terms (stream_of bytes) (Ok (TermRead t)) is
    says (Ok (FormulaRead f)) is = absurd (reading_holds LIMITS some_variables terms (stream_of bytes) (Ok (FormulaRead f)) is).reads
    says (Err e) is = reading_holds LIMITS some_variables terms (stream_of bytes) (Err e) is

    tells : (q : Result Term TextFault) → MatchResult q (IsTermText bytes) (IsTermFault bytes) → term_in (read LIMITS (start terms) (stream_of bytes)) ≡ q
    tells (Ok t) h = ap term_in (holds_reading LIMITS some_variables terms (stream_of bytes) (Ok (TermRead t)) h)
    tells (Err e) h = ap term_in (holds_reading LIMITS some_variables terms (stream_of bytes) (Err e) h)

-- What a call answers that gives an exact reading.
module _ {X : Type 0} (reading : Result X TextFault) (Is : X → Type 0) (Fails : TextFault → Type 0) (exact : IsExact reading Is Fails) where
  pub is_text : (r : Result X TextError) → GivesText (λ (x : X). x) r reading → IfOk r Is
  is_text (Ok x) given = (exact (Ok x)).0 given
  is_text (Err e) given = tt

  pub is_fault : (r : Result X TextError) → GivesText (λ (x : X). x) r reading → IfFault r Fails
  is_fault (Ok x) given = tt
  is_fault (Err TextMemory) given = tt
  is_fault (Err (Text e)) given = (exact (Err e)).0 given

  pub only_text : (r : Result X TextError) → GivesText (λ (x : X). x) r reading → (x : X) → Is x → GivesText (λ (y : X). y) r (Ok x)
  only_text r given x is = subst (GivesText (λ (y : X). y) r) ((exact (Ok x)).1 is) given

  pub first_fault : (r : Result X TextError) → GivesText (λ (x : X). x) r reading → (e : TextFault) → Fails e → GivesText (λ (y : X). y) r (Err e)
  first_fault r given e is = subst (GivesText (λ (y : X). y) r) ((exact (Err e)).1 is) given

  pub one_text : (x y : X) → Is x → Is y → x ≡ y
  one_text x y a b = let first : reading ≡ Ok x = (exact (Ok x)).1 a in let second : reading ≡ Ok y = (exact (Ok y)).1 b in cc

  pub one_fault : (d e : TextFault) → Fails d → Fails e → d ≡ e
  one_fault d e a b = let first : reading ≡ Err d = (exact (Err d)).1 a in let second : reading ≡ Err e = (exact (Err e)).1 b in cc

-- no formula text is a term, and no term text a formula
pub no_term : (bytes : List ℕ) (r : Reading) (w : Outcome) (t : Term) → r ≡ start formulas → read LIMITS r (stream_of bytes) ≡ Ok w → w ≡ TermRead t → ⊥
no_term bytes r w t begins is same = (reading_holds LIMITS some_variables formulas (stream_of bytes) (Ok (TermRead t)) (ap (λ (s : Reading). read LIMITS s (stream_of bytes)) (sym begins) ∙ (is ∙ ap Ok same))).reads

pub no_formula : (bytes : List ℕ) (r : Reading) (w : Outcome) (f : Formula) → r ≡ start terms → read LIMITS r (stream_of bytes) ≡ Ok w → w ≡ FormulaRead f → ⊥
no_formula bytes r w f begins is same = (reading_holds LIMITS some_variables terms (stream_of bytes) (Ok (FormulaRead f)) (ap (λ (s : Reading). read LIMITS s (stream_of bytes)) (sym begins) ∙ (is ∙ ap Ok same))).reads
