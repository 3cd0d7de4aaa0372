-- Canonical texts tell formulas and terms apart: there are limits within which both of two are read, and what a reader reads is one.
use Rattle.std.proofs.Common.{◌≡◌, ℕ, ◌≤◌, max, false, List, [], Ok, refl, sym, ap, ◌∙◌, subst, lit≤, arith}
use Rattle.fol.specs.Syntax.{Term, Formula, atom, top, bot, not, and, or, imp, all, ex}
use Rattle.fol.specs.Facts.{has_body}
use Rattle.fol.specs.Formed.{IsFormed, IsFormedTerm}
use Rattle.finite.specs.Finite as set
use Rattle.free_variables.specs.Occurrence.{vars_formula}
use Rattle.tptp_tokens.specs.declared.tokens.Token.{Token}
use Rattle.tptp_tokens.specs.Stream.{ends, stream_of, Begins}
use Rattle.tptp_read.specs.declared.state.Limits.{Limits}
use Rattle.tptp_read.specs.declared.state.Outcome.TheVariants.{Formula as FormulaRead, Term as TermRead}
use Rattle.tptp_read.specs.Grammar.{IsTerm, IsFormula, formulas, terms}
use Rattle.tptp_read.specs.Machine.{start, read_tokens}
use Rattle.tptp_read.proofs.Complete.{whole_read}
use Rattle.tptp_print.specs.Choice.{numbers_of, outside}
use Rattle.tptp_print.specs.Canonical.{canonical, canonical_term}
use Rattle.tptp_round_trip.specs.Limits.{term_levels, formula_levels, and_operators, or_operators, AreChainsWithin, AreNumbersInRange, AreTermNumbersInRange}
use Rattle.tptp_round_trip.proofs.Tokens.{term_tokens, formula_tokens}
use Rattle.tptp_round_trip.proofs.Opened.{opened_closed, opened_closed_term}
use Rattle.tptp_round_trip.proofs.TokenReading.{term_reads, formula_reads}
use Rattle.tptp_round_trip.proofs.RoundTrip.{formula_lexes, term_lexes, same_tokens}
use Rattle.tptp_round_trip.proofs.Names.{names_rise, names_apart}

-- how many operators the longest chain in a formula has
abbrev longest : Formula → ℕ
longest (not f) = longest f
longest (and f g) = max (and_operators (and f g)) (max (longest f) (longest g))
longest (or f g) = max (or_operators (or f g)) (max (longest f) (longest g))
longest (imp f g) = max (longest f) (longest g)
longest (all f) = longest f
longest (ex f) = longest f
longest f = 0

chains_within : (most : ℕ) (f : Formula) → longest f ≤ most → AreChainsWithin most f
chains_within most (atom p ts) h = tt
chains_within most top h = tt
chains_within most bot h = tt
chains_within most (not f) h = chains_within most f h
chains_within most (and f g) h =
    let here : and_operators (and f g) ≤ most = omega arith in
    let left : longest f ≤ most = omega arith in
    let right : longest g ≤ most = omega arith in
    (here, (chains_within most f left, chains_within most g right))
chains_within most (or f g) h =
    let here : or_operators (or f g) ≤ most = omega arith in
    let left : longest f ≤ most = omega arith in
    let right : longest g ≤ most = omega arith in
    (here, (chains_within most f left, chains_within most g right))
chains_within most (imp f g) h =
    let left : longest f ≤ most = omega arith in
    let right : longest g ≤ most = omega arith in
    (chains_within most f left, chains_within most g right)
chains_within most (all f) h = chains_within most f h
chains_within most (ex f) h = chains_within most f h

-- limits for so many levels and so long chains
wide : ℕ → ℕ → Limits
wide levels operators = record { levels = levels; operators = operators; variables = 1 }

-- the chosen numbers of a formula, and its tokens
abbrev chosen : Formula → ℕ → ℕ
chosen f = outside (numbers_of (vars_formula f set.empty))

abbrev tokens_of : Formula → List Token
tokens_of f = formula_tokens (chosen f) 0 f []

formula_meant : (levels operators : ℕ) (f : Formula) → has_body f ≡ false → IsFormed f → formula_levels f ≤ levels → longest f ≤ operators
    → read_tokens (wide levels operators) (start formulas) (tokens_of f) ≡ Ok (FormulaRead f)
unfolding wide
formula_meant levels operators f plain formed deep long =
    let lim = wide levels operators in
    whole_read lim formulas (tokens_of f) (FormulaRead f)
    (subst (λ (g : Formula). IsFormula lim levels (tokens_of f) g []) (opened_closed (chosen f) f 0 0 plain formed)
    (formula_reads lim (chosen f) (names_rise f) (lit≤ tt) 0 f formed (names_apart f) (chains_within operators f long) levels [] deep))

-- texts that are equal have equal tokens
formula_tokens_same : (f g : Formula) → IsFormed f → IsFormed g → AreNumbersInRange f → AreNumbersInRange g → canonical f ≡ canonical g → tokens_of f ≡ tokens_of g
unfolding canonical
formula_tokens_same f g formed formed' short short' same =
    let one = formula_lexes (chosen f) f formed short.0 short.1 0 in
    let other = formula_lexes (chosen g) g formed' short'.0 short'.1 0 in
    same_tokens (stream_of (canonical f)) (ends one.0) (ends other.0) (tokens_of f) (tokens_of g) one.0 other.0 one.1
    (subst (λ (text : List ℕ). Begins (stream_of text) (tokens_of g) (ends other.0)) (sym same) other.1) refl refl

pub same_formula : (f g : Formula) → has_body f ≡ false → has_body g ≡ false → IsFormed f → IsFormed g → AreNumbersInRange f → AreNumbersInRange g → canonical f ≡ canonical g → f ≡ g
same_formula f g plain plain' formed formed' short short' same =
    let levels = max (formula_levels f) (formula_levels g) in
    let operators = max (longest f) (longest g) in
    let lim = wide levels operators in
    let one = formula_meant levels operators f plain formed (omega arith) (omega arith) in
    let other = formula_meant levels operators g plain' formed' (omega arith) (omega arith) in
    let both : Ok (FormulaRead f) ≡ Ok (FormulaRead g) =
    sym one ∙ ap (read_tokens lim (start formulas)) (formula_tokens_same f g formed formed' short short' same) ∙ other in
    cc

-- terms
abbrev own : ℕ → ℕ
own d = d

abbrev tokens_of_term : Term → List Token
tokens_of_term t = term_tokens own 0 t []

term_meant : (levels : ℕ) (t : Term) → IsFormedTerm t → term_levels t ≤ levels → read_tokens (wide levels 0) (start terms) (tokens_of_term t) ≡ Ok (TermRead t)
unfolding wide
term_meant levels t formed deep =
    let lim = wide levels 0 in
    whole_read lim terms (tokens_of_term t) (TermRead t)
    (subst (λ (u : Term). IsTerm lim levels (tokens_of_term t) u []) (opened_closed_term own t 0 0 formed) (term_reads lim own 0 t levels [] deep formed))

term_tokens_same : (t u : Term) → IsFormedTerm t → IsFormedTerm u → AreTermNumbersInRange t → AreTermNumbersInRange u → canonical_term t ≡ canonical_term u → tokens_of_term t ≡ tokens_of_term u
unfolding canonical_term
term_tokens_same t u formed formed' short short' same =
    let one = term_lexes own t formed short 0 in
    let other = term_lexes own u formed' short' 0 in
    same_tokens (stream_of (canonical_term t)) (ends one.0) (ends other.0) (tokens_of_term t) (tokens_of_term u) one.0 other.0 one.1
    (subst (λ (text : List ℕ). Begins (stream_of text) (tokens_of_term u) (ends other.0)) (sym same) other.1) refl refl

pub same_term : (t u : Term) → IsFormedTerm t → IsFormedTerm u → AreTermNumbersInRange t → AreTermNumbersInRange u → canonical_term t ≡ canonical_term u → t ≡ u
same_term t u formed formed' short short' same =
    let levels = max (term_levels t) (term_levels u) in
    let one = term_meant levels t formed (omega arith) in
    let other = term_meant levels u formed' (omega arith) in
    let both : Ok (TermRead t) ≡ Ok (TermRead u) = sym one ∙ ap (read_tokens (wide levels 0) (start terms)) (term_tokens_same t u formed formed' short short' same) ∙ other in
    cc
