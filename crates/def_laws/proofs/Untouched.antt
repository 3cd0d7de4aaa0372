-- Arguments put into a formula change nothing where none of its indices reaches them.
use Rattle.std.proofs.Common.{◌≡◌, ℕ, ◌+◌, ◌-◌, ◌≤◌, max, false, ◌==◌, if◌then◌else◌, Bool, refl, ap, ◌∙◌, arith}
use Rattle.std.proofs.lemmas.Bool.Decides.{nat_tests}
use Rattle.fol.specs.Syntax.{Term, free, bound, app, Terms, nil, cons, Formula, atom, top, bot, not, and, or, imp, all, ex}
use Rattle.fol.specs.Facts.{term_dangling, terms_dangling, formula_dangling}
use Rattle.fol.specs.Formed.{count_terms}
use Rattle.substitution.specs.Unfolding.{argument, put_term_at, put_terms_at}
use Rattle.def_laws.specs.Flat.{lifted_terms, lifted_put}
use Rattle.def_laws.proofs.Lifts.{count-lifted}

pub left_out : (b : Bool) (t u : Term) → b ≡ false → (if b then t else u) ≡ u
left_out b t u h = rw h refl

further_out : (i l : ℕ) → i + 2 ≤ l → (i + 1 == l) ≡ false
further_out i l h = grind (arith, nat_tests)

argument_low : (us : Terms) (l i : ℕ) → i + 1 + count_terms us ≤ l → argument us l i ≡ bound i
argument_low nil l i low = refl
argument_low (cons u us) l i low = left_out _ u _ (further_out i l (omega arith)) ∙ argument_low us (l - 1) i (omega arith)

left_low : (a b n l : ℕ) → max a b + n ≤ l → a + n ≤ l
left_low a b n l h = omega arith

right_low : (a b n l : ℕ) → max a b + n ≤ l → b + n ≤ l
right_low a b n l h = omega arith

mutual
  put-low_term : (us : Terms) (l : ℕ) (t : Term) → term_dangling t + count_terms us ≤ l → put_term_at us l t ≡ t
  put-low_term us l (free v) low = refl
  put-low_term us l (bound i) low = argument_low us l i low
  put-low_term us l (app s ts) low = ap (app s) (put-low_terms us l ts low)

  put-low_terms : (us : Terms) (l : ℕ) (ts : Terms) → terms_dangling ts + count_terms us ≤ l → put_terms_at us l ts ≡ ts
  put-low_terms us l nil low = refl
  put-low_terms us l (cons t ts) low =
      λ i. cons (put-low_term us l t (left_low (term_dangling t) (terms_dangling ts) (count_terms us) l low) i) (put-low_terms us l ts (right_low (term_dangling t) (terms_dangling ts) (count_terms us) l low) i)

module _ (us : Terms) where
  left_formula : (f g : Formula) (l : ℕ) → max (formula_dangling f) (formula_dangling g) + count_terms us ≤ l → formula_dangling f + count_terms us ≤ l
  left_formula f g l h = omega arith

  right_formula : (f g : Formula) (l : ℕ) → max (formula_dangling f) (formula_dangling g) + count_terms us ≤ l → formula_dangling g + count_terms us ≤ l
  right_formula f g l h = omega arith

  further_in : (f : Formula) (l : ℕ) → (formula_dangling f - 1) + count_terms us ≤ l → formula_dangling f + count_terms (lifted_terms 1 us) ≤ l + 1
  further_in f l h = omega (arith, count-lifted 1 us)

pub put-low : (us : Terms) (l : ℕ) (f : Formula) → formula_dangling f + count_terms us ≤ l → lifted_put us l f ≡ f
put-low us l (atom p ts) low = ap (atom p) (put-low_terms us l ts low)
put-low us l top low = refl
put-low us l bot low = refl
put-low us l (not f) low = ap not (put-low us l f low)
put-low us l (and f g) low = λ i. and (put-low us l f (left_formula us f g l low) i) (put-low us l g (right_formula us f g l low) i)
put-low us l (or f g) low = λ i. or (put-low us l f (left_formula us f g l low) i) (put-low us l g (right_formula us f g l low) i)
put-low us l (imp f g) low = λ i. imp (put-low us l f (left_formula us f g l low) i) (put-low us l g (right_formula us f g l low) i)
put-low us l (all f) low = ap all (put-low (lifted_terms 1 us) (l + 1) f (further_in us f l low))
put-low us l (ex f) low = ap ex (put-low (lifted_terms 1 us) (l + 1) f (further_in us f l low))
