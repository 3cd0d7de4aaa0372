-- The bound on the number of variables does not matter: unification goes on by itself with one variable less.
use Rattle.std.proofs.Common.{◌≡◌, ℕ, zero, suc, ◌<◌, Bool, true, false, if◌then◌else◌, List, length, Option, None, refl, ap, ◌∙◌, arith}
use Rattle.std.specs.Prelude.{option_map}
use Rattle.fol.specs.declared.symbols.Var.{Var}
use Rattle.fol.specs.Syntax.{Term}
use Rattle.free_variables.specs.Occurrence.{is_free_in_term}
use Rattle.substitution.specs.Maps.{Map}
use Rattle.unify_laws.specs.Equations.{Equation, variables_of, is_free_in_equations, replaced}
use Rattle.unify_laws.proofs.EachSide.{Solves}
use Rattle.unify_laws.specs.Unification.{Difference, same, clash, differs, first_difference, bound_first, by_difference, mgu_within, mgu}
use Rattle.unify_laws.proofs.Differences.{IsBinding, Means, first_difference_means}
use Rattle.unify_laws.proofs.Unified.{IsLow, low, low_above, lower}

same_outside : (look again : List Equation → Option Map) (es : List Equation) (x : Var) (s : Term) → (is_free_in_term x s ≡ false → look (replaced x s es) ≡ again (replaced x s es))
    → (b : Bool) → is_free_in_term x s ≡ b
    → ◌≡◌ {A = Option Map} (if b then None else option_map (bound_first x s) (look (replaced x s es))) (if b then None else option_map (bound_first x s) (again (replaced x s es)))
same_outside look again es x s alike true inside = refl
same_outside look again es x s alike false outside = ap (option_map (bound_first x s)) (alike outside)

-- what is found is by what is found with one variable less
same_step : (look again : List Equation → Option Map) (es : List Equation)
    → ((x : Var) (s : Term) → IsBinding (λ g. Solves g es) (λ v. is_free_in_equations v es) x s → is_free_in_term x s ≡ false → look (replaced x s es) ≡ again (replaced x s es))
    → (d : Difference) → Means (λ g. Solves g es) (λ v. is_free_in_equations v es) d → by_difference look es d ≡ by_difference again es d
same_step look again es alike same m = refl
same_step look again es alike clash m = refl
same_step look again es alike (differs x s) m = same_outside look again es x s (alike x s m) (is_free_in_term x s) refl

-- any two bounds above the number of variables give the same
pub same_within : (n k : ℕ) (es : List Equation) → IsLow n es → IsLow k es → mgu_within n es ≡ mgu_within k es
unfolding mgu_within
same_within zero k es l g = absurd (omega (arith, l.few))
same_within (suc n) zero es l g = absurd (omega (arith, g.few))
same_within (suc n) (suc k) es l g =
    same_step (mgu_within n) (mgu_within k) es (λ x s m outside. same_within n k (replaced x s es) (lower n es x s m outside l) (lower k es x s m outside g))
    (first_difference es) (first_difference_means es)

within_suc : (n : ℕ) (es : List Equation) → mgu_within (suc n) es ≡ by_difference (mgu_within n) es (first_difference es)
unfolding mgu_within
within_suc n es = refl

-- unification goes on by the first difference
pub mgu-unrolled : (es : List Equation) → mgu es ≡ by_difference mgu es (first_difference es)
unfolding mgu
mgu-unrolled es =
    within_suc (length (variables_of es)) es
    ∙ same_step (mgu_within (length (variables_of es))) mgu es
    (λ x s m outside. same_within (length (variables_of es)) (suc (length (variables_of (replaced x s es)))) (replaced x s es) (lower (length (variables_of es)) es x s m outside (low es)) (low (replaced x s es)))
    (first_difference es) (first_difference_means es)

-- any bound above the number of variables will do
pub mgu-within : (n : ℕ) (es : List Equation) → length (variables_of es) < n → mgu es ≡ mgu_within n es
unfolding mgu
mgu-within n es above = same_within (suc (length (variables_of es))) n es (low es) (low_above n es above)
