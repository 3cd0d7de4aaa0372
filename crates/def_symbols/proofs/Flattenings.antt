-- Formulas with all unfolded: what has no body stays, terms without an index need no lifting, and what comes out is well formed.
use Rattle.std.proofs.Common.{◌≡◌, ℕ, ◌+◌, ◌^◌, ◌≤◌, Bool, false, max, refl, sym, ap, subst, ◌∙◌, arith}
use Rattle.fol.specs.Syntax.{Term, free, bound, app, Terms, nil, cons, Formula}
use Rattle.fol.specs.Facts.{terms_size, term_dangling, terms_dangling, formula_size, has_body}
use Rattle.fol.specs.Formed.{count_terms, IsFormed}
use Rattle.def_laws.specs.Flat.{lifted_term, lifted_terms, flat}
use Rattle.def_laws.proofs.FlatFormed.{formed_flat}
use Rattle.def_laws.proofs.FlatShapes.{body-flat, flat-plain}
use Rattle.def_laws.proofs.Lifts.{lifted-none, lifted-lifted}
use Rattle.def_laws.proofs.Sizes.{nesting-flat_within}

pub formed_answer : (f g : Formula) → g ≡ flat f → formula_size f ≤ 2 ^ 26 → IsFormed f → IsFormed g
formed_answer f g is small h = subst (λ x. IsFormed x) (sym is) (formed_flat f (omega (arith, nesting-flat_within f)) h)

pub plain_answer : (f g : Formula) → g ≡ flat f → has_body g ≡ false
plain_answer f g is = ap has_body is ∙ body-flat f

pub flat_without : (f : Formula) (b : Bool) → b ≡ has_body f → b ≡ false → f ≡ flat f
flat_without f b is none = sym (flat-plain f (sym is ∙ none))

pub count_within : (ts : Terms) → count_terms ts ≤ terms_size ts
count_within nil = omega arith
count_within (cons t ts) = omega (arith, count_within ts)

none_left : (m n : ℕ) → max m n ≡ 0 → m ≡ 0
none_left m n h = omega arith

none_right : (m n : ℕ) → max m n ≡ 0 → n ≡ 0
none_right m n h = omega arith

mutual
  lifted-low : (k : ℕ) (t : Term) → term_dangling t ≡ 0 → t ≡ lifted_term k t
  lifted-low k (free v) h = refl
  lifted-low k (bound i) h = absurd (omega arith)
  lifted-low k (app s ts) h = ap (app s) (lifted-low_all k ts h)

  lifted-low_all : (k : ℕ) (ts : Terms) → terms_dangling ts ≡ 0 → ts ≡ lifted_terms k ts
  lifted-low_all k nil h = refl
  lifted-low_all k (cons t ts) h =
      λ i. cons (lifted-low k t (none_left (term_dangling t) (terms_dangling ts) h) i) (lifted-low_all k ts (none_right (term_dangling t) (terms_dangling ts) h) i)

pub lifted_without : (k n : ℕ) (t : Term) → n ≡ term_dangling t → n ≡ 0 → t ≡ lifted_term k t
lifted_without k n t is none = lifted-low k t (sym is ∙ none)

pub lifted_all_without : (k n : ℕ) (ts : Terms) → n ≡ terms_dangling ts → n ≡ 0 → ts ≡ lifted_terms k ts
lifted_all_without k n ts is none = lifted-low_all k ts (sym is ∙ none)

lifted-zero : (t : Term) → t ≡ lifted_term 0 t
lifted-zero (free v) = refl
lifted-zero (bound i) = let same : i ≡ i + 0 = omega arith in ap bound same
lifted-zero (app s ts) = ap (app s) (sym (lifted-none ts))

pub lifted_by_none : (k : ℕ) (t : Term) → k ≡ 0 → t ≡ lifted_term k t
lifted_by_none k t none = lifted-zero t ∙ ap (λ n. lifted_term n t) (sym none)

pub lifted_all_by_none : (k : ℕ) (ts : Terms) → k ≡ 0 → ts ≡ lifted_terms k ts
lifted_all_by_none k ts none = sym (lifted-none ts) ∙ ap (λ n. lifted_terms n ts) (sym none)

pub lifted_again : (k : ℕ) (ts : Terms) → lifted_terms 1 (lifted_terms k ts) ≡ lifted_terms (k + 1) ts
lifted_again k ts = lifted-lifted 1 k ts

pub lifted_all_zero : (ts : Terms) → lifted_terms 0 ts ≡ ts
lifted_all_zero = lifted-none
