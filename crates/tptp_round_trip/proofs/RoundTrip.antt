-- Canonical texts are read as what they were printed from.
use Rattle.std.proofs.Common.{◌≡◌, ℕ, ◌+◌, ◌^◌, ◌<◌, ◌≤◌, suc, Bool, true, false, if◌then◌else◌, List, [], ◌∷◌, length, Result, Ok, Err, IfOk, refl, sym, ap, ◌∙◌, subst, append-nil, lit≤, arith}
use Rattle.std.specs.List.{filter_map}
use Rattle.fol.specs.declared.symbols.Var.{Var}
use Rattle.fol.specs.declared.symbols.Var.TheVariants.{Word, Num}
use Rattle.fol.specs.Syntax.{Term, pred_symbol, Formula, atom, top, bot, not, and, or, imp, all, ex}
use Rattle.fol.specs.Facts.{has_body}
use Rattle.fol.specs.Formed.{IsFormed, IsFormedTerm}
use Rattle.finite.specs.Finite as set
use Rattle.free_variables.specs.Occurrence.{is_free_in, vars_formula}
use Rattle.tptp_tokens.specs.declared.tokens.Token.{Token}
use Rattle.tptp_tokens.specs.Stream.{Stream, ends, stream_of, Begins, here, behind}
use Rattle.tptp_read.specs.declared.errors.TextError.{TextError}
use Rattle.tptp_read.specs.Given.{GivesText}
use Rattle.tptp_read.specs.declared.state.Outcome.{Outcome}
use Rattle.tptp_read.specs.declared.state.Outcome.TheVariants.{Formula as FormulaRead, Term as TermRead}
use Rattle.tptp_read.specs.declared.state.Part.TheVariants.{First}
use Rattle.tptp_read.specs.declared.state.Side.TheVariants.{Whole}
use Rattle.tptp_read.specs.declared.state.TheConstants.{LIMITS}
use Rattle.tptp_read.specs.Grammar.{IsTerm, IsFormula, Sort, formulas, terms}
use Rattle.tptp_read.specs.Machine.{start, read_tokens}
use Rattle.tptp_read.specs.Texts.{IsText, IsFormulaText, IsTermText, IsFormulaFault, IsTermFault, formula_reading, term_reading}
use Rattle.tptp_read.proofs.Complete.{whole_read}
use Rattle.tptp_read.proofs.Whole.{exact_formula, exact_term, one_text}
use Rattle.tptp_print.specs.Choice.{number_of, numbers_of, outside}
use Rattle.tptp_print.specs.Canonical.{is_equality, is_binary, is_and, is_or, term_text, formula_text, quantifier_depth, canonical, canonical_term}
use Rattle.tptp_round_trip.specs.Limits.{term_levels, formula_levels, unit_levels, left_of_and_levels, left_of_or_levels, negation_levels, IsWithinLimits, IsTermWithinLimits, AreNumbersInRange, AreTermNumbersInRange}
use Rattle.tptp_round_trip.proofs.Tokens.{term_tokens, formula_tokens}
use Rattle.tptp_round_trip.proofs.Opened.{opened_closed, opened_closed_term}
use Rattle.tptp_round_trip.proofs.TokenReading.{term_reads, formula_reads}
use Rattle.tptp_round_trip.proofs.Bytes.{Lexes, nothing_lexes}
use Rattle.tptp_round_trip.proofs.Texts.{term_spelt, formula_spelt}
use Rattle.tptp_round_trip.proofs.Exact.{term_within, formula_within}
use Rattle.tptp_round_trip.proofs.Names.{at_most, names_rise, names_apart}

pub formula_lexes : (names : ℕ → ℕ) (f : Formula) → IsFormed f → ((n : ℕ) → is_free_in (Num n) f ≡ true → n < 2 ^ 64) → ((d : ℕ) → d < quantifier_depth f → names d < 2 ^ 64) → Lexes (formula_text names 0 f) (formula_tokens names 0 f [])
formula_lexes names f formed short few =
    subst (λ (w : List ℕ). Lexes w (formula_tokens names 0 f [])) (append-nil (formula_text names 0 f))
    ((formula_spelt names (quantifier_depth f) few 0 f (omega arith) formed short).lexes [] [] refl nothing_lexes)

pub formula_is_read : (f : Formula) → has_body f ≡ false → IsFormed f → IsWithinLimits f → AreNumbersInRange f → IsFormulaText (canonical f) f
unfolding canonical
formula_is_read f plain formed fits short =
    let names = outside (numbers_of (vars_formula f set.empty)) in
    let text = formula_lexes names f formed short.0 short.1 0 in
    record {
      tokens = formula_tokens names 0 f [];
      length = text.0;
      whole = text.1;
      reads = subst (λ (g : Formula). IsFormula LIMITS 200 (formula_tokens names 0 f []) g []) (opened_closed names f 0 0 plain formed)
          (formula_reads LIMITS names (names_rise f) (lit≤ tt) 0 f formed (names_apart f) fits.1 200 [] fits.0);
    }

pub term_lexes : (names : ℕ → ℕ) (t : Term) → IsFormedTerm t → AreTermNumbersInRange t → Lexes (term_text names 0 t) (term_tokens names 0 t [])
term_lexes names t formed short =
    subst (λ (w : List ℕ). Lexes w (term_tokens names 0 t [])) (append-nil (term_text names 0 t))
    ((term_spelt names 0 (λ d l. absurd (omega arith)) 0 (omega arith) t formed short).lexes [] [] refl nothing_lexes)

pub term_is_read : (t : Term) → IsFormedTerm t → IsTermWithinLimits t → AreTermNumbersInRange t → IsTermText (canonical_term t) t
unfolding canonical_term
term_is_read t formed fits short =
    let names : ℕ → ℕ = λ d. d in
    let text = term_lexes names t formed short 0 in
    record {
      tokens = term_tokens names 0 t [];
      length = text.0;
      whole = text.1;
      reads = subst (λ (u : Term). IsTerm LIMITS 200 (term_tokens names 0 t []) u []) (opened_closed_term names t 0 0 formed) (term_reads LIMITS names 0 t 200 [] fits formed);
    }

-- what is read shows that the formula is within the limits

pub same_tokens : (st rest rest' : Stream) (ts us : List Token) (n m : ℕ) → Begins st ts rest → Begins st us rest' → rest ≡ ends n → rest' ≡ ends m → ts ≡ us
same_tokens st rest rest' ts us n m (here st') (here st'') is is' = refl
same_tokens st rest rest' ts us n m (here st') (behind at t x y vs more) is is' = cc
same_tokens st rest rest' ts us n m (behind at t x y vs more) (here st') is is' = cc
same_tokens st rest rest' ts us n m (behind at t x y vs more) (behind at' t' x' y' vs' more') is is' =
    let one : x ≡ x' = cc in
    let others = same_tokens x y y' vs vs' n m more (subst (λ (z : Stream). Begins z vs' y') (sym one) more') is is' in cc

-- a text whose tokens these are is read by them
tokens_read : (sort : Sort) (st : Stream) (w : Outcome) (ts : List Token) (n : ℕ) → Begins st ts (ends n) → IsText LIMITS sort st w → read_tokens LIMITS (start sort) ts ≡ Ok w
tokens_read sort st w ts n begins text =
    ap (read_tokens LIMITS (start sort)) (same_tokens st (ends n) (ends text.length) ts text.tokens n text.length begins text.whole refl refl) ∙ whole_read LIMITS sort text.tokens w text.reads

pub formula_fits : (f g : Formula) → IsFormed f → AreNumbersInRange f → IsFormulaText (canonical f) g → IsWithinLimits f
unfolding canonical
formula_fits f g formed short text =
    let names = outside (numbers_of (vars_formula f set.empty)) in
    let lexes = formula_lexes names f formed short.0 short.1 0 in
    let reach = tokens_read formulas (stream_of (formula_text names 0 f)) (FormulaRead g) (formula_tokens names 0 f []) lexes.0 lexes.1 text in
    let shown = formula_within LIMITS names (FormulaRead g) (names_rise f) (lit≤ tt) f [] formed (names_apart f) reach in
    let levels : 0 + formula_levels f ≤ 200 = shown.0 in
    (omega arith, shown.1)

pub formula_only : (f g : Formula) → has_body f ≡ false → IsFormed f → AreNumbersInRange f → IsFormulaText (canonical f) g → g ≡ f
formula_only f g plain formed short text =
    one_text (formula_reading (canonical f)) (IsFormulaText (canonical f)) (IsFormulaFault (canonical f)) (exact_formula (canonical f)) g f text (formula_is_read f plain formed (formula_fits f g formed short text) short)

pub term_fits : (t u : Term) → IsFormedTerm t → AreTermNumbersInRange t → IsTermText (canonical_term t) u → IsTermWithinLimits t
unfolding canonical_term
term_fits t u formed short text =
    let names : ℕ → ℕ = λ d. d in
    let lexes = term_lexes names t formed short 0 in
    let reach = tokens_read terms (stream_of (term_text names 0 t)) (TermRead u) (term_tokens names 0 t []) lexes.0 lexes.1 text in
    let levels : 0 + term_levels t ≤ 200 = term_within LIMITS names (TermRead u) 0 t Whole [] First [] [] (lit≤ tt) formed reach in
    omega arith

pub term_only : (t u : Term) → IsFormedTerm t → AreTermNumbersInRange t → IsTermText (canonical_term t) u → u ≡ t
term_only t u formed short text =
    one_text (term_reading (canonical_term t)) (IsTermText (canonical_term t)) (IsTermFault (canonical_term t)) (exact_term (canonical_term t)) u t text (term_is_read t formed (term_fits t u formed short text) short)

-- the reader's answer to a canonical text

pub back_same : (bytes : List ℕ) (f : Formula) (r : Result Formula TextError) → bytes ≡ canonical f → IsFormed f → IfOk r (λ g. IsFormulaText bytes g) → has_body f ≡ false → AreNumbersInRange f → IfOk r (λ g. g ≡ f)
back_same bytes f (Ok g) is formed text plain short = formula_only f g plain formed short (subst (λ (x : List ℕ). IsFormulaText x g) is text)
back_same bytes f (Err e) is formed text plain short = tt

pub back_read : (bytes : List ℕ) (f : Formula) (r : Result Formula TextError) → bytes ≡ canonical f → IsFormed f → ((g : Formula) → IsFormulaText bytes g → GivesText (λ h. h) r (Ok g)) → has_body f ≡ false → IsWithinLimits f → AreNumbersInRange f
    → GivesText (λ h. h) r (Ok f)
back_read bytes f r is formed only plain fits short = only f (subst (λ (x : List ℕ). IsFormulaText x f) (sym is) (formula_is_read f plain formed fits short))

-- each quantifier is a level

in_unit : (f : Formula) (n : ℕ) → n ≤ unit_levels f n
in_unit f n = elim (is_binary f) as (λ (b : Bool). n ≤ (if b then suc n else n)) [ true ↦ omega arith | false ↦ omega arith ]

in_left_of_and : (f : Formula) (n : ℕ) → n ≤ left_of_and_levels f n
in_left_of_and f n = elim (is_and f) as (λ (b : Bool). n ≤ (if b then n else unit_levels f n)) [ true ↦ omega arith | false ↦ in_unit f n ]

in_left_of_or : (f : Formula) (n : ℕ) → n ≤ left_of_or_levels f n
in_left_of_or f n = elim (is_or f) as (λ (b : Bool). n ≤ (if b then n else unit_levels f n)) [ true ↦ omega arith | false ↦ in_unit f n ]

in_negation : (f : Formula) (n : ℕ) → n ≤ negation_levels f n
in_negation (atom p ts) n = elim (is_equality (pred_symbol p) ts) as (λ (b : Bool). n ≤ (if b then n else suc n)) [ true ↦ omega arith | false ↦ omega arith ]
in_negation f n = omega (arith, in_unit f n)

quantifiers_are_levels : (f : Formula) → quantifier_depth f ≤ formula_levels f
quantifiers_are_levels (atom s ts) = omega arith
quantifiers_are_levels top = omega arith
quantifiers_are_levels bot = omega arith
quantifiers_are_levels (not f) = omega (arith, quantifiers_are_levels f, in_negation f (formula_levels f))
quantifiers_are_levels (and f g) = omega (arith, quantifiers_are_levels f, quantifiers_are_levels g, in_left_of_and f (formula_levels f), in_unit g (formula_levels g))
quantifiers_are_levels (or f g) = omega (arith, quantifiers_are_levels f, quantifiers_are_levels g, in_left_of_or f (formula_levels f), in_unit g (formula_levels g))
quantifiers_are_levels (imp f g) = omega (arith, quantifiers_are_levels f, quantifiers_are_levels g, in_unit f (formula_levels f), in_unit g (formula_levels g))
quantifiers_are_levels (all f) = omega (arith, quantifiers_are_levels f, in_unit f (formula_levels f))
quantifiers_are_levels (ex f) = omega (arith, quantifiers_are_levels f, in_unit f (formula_levels f))

-- there are no more numbered variables than variables
fewer_numbers : (vs : List Var) → length (filter_map number_of vs) ≤ length vs
fewer_numbers [] = omega arith
fewer_numbers (Word x ∷ vs) = omega (arith, fewer_numbers vs)
fewer_numbers (Num n ∷ vs) = omega (arith, fewer_numbers vs)

chosen_short : (ns : List ℕ) (d k n w : ℕ) → d < k → k ≤ 200 → length ns ≤ n → n < 2 ^ 63 → outside ns d < 2 ^ 64
chosen_short ns d k n w l few fewer small = omega (arith, at_most ns d)

-- a formula within the limits with fewer than 2 ^ 63 free variables, whose numbers are short, is printed with short numbers
pub few_variables : (f : Formula) → IsWithinLimits f → length (set.listing (vars_formula f set.empty)) < 2 ^ 63 → ((n : ℕ) → is_free_in (Num n) f ≡ true → n < 2 ^ 64) → AreNumbersInRange f
few_variables f fits few short =
    let vs = set.listing (vars_formula f set.empty) in
    (short, λ d l. chosen_short (filter_map number_of vs) d (quantifier_depth f) (length vs) 0 l (omega (arith, quantifiers_are_levels f, fits.0)) (fewer_numbers vs) few)
