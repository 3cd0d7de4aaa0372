-- The place of a formula in a rising list, when it is looked for at one place after another.
use Rattle.std.proofs.Common.{◌≡◌, ℕ, suc, ◌+◌, ◌<◌, inl, inr, false, List, [], ◌∷◌, length, get_or, Option, Some, None, IfSome, IsNone, Result, Ok, Err, refl, sym, ap, ◌∙◌, arith}
use Rattle.std.specs.Result.{result_ok}
use Rattle.std.specs.declared.cmp.Ordering.TheVariants.{Less, Equal, Greater}
use Rattle.std.specs.Cmp.{tied_back, Equal-is}
use Rattle.std.specs.Ordering.{eq_by_cmp, is_eq}
use Rattle.std.proofs.lemmas.Bool.{cases_lt}
use Rattle.std.proofs.lemmas.List.{get_or_default}
use Rattle.fol.specs.Syntax.{Formula}
use Rattle.fol.specs.Order.{formula_cmp}
use Rattle.fol.specs.OrderLaws.{formula_total}
use Rattle.finite.specs.Finite as set
use Rattle.finite.specs.Place.{place, place_by, later}
use Rattle.finite.proofs.Places.{place_of_search}
use Rattle.finite.proofs.Removed.{tie_in_range}
use Rattle.search_laws.proofs.Tests.{clash}
use Rattle.exp_extract.specs.Sides.{IsPlaceOf, HasNotBetween, number_in}
use Rattle.exp_extract.proofs.NumberedFormulas.{number_at, number_by_place}

none_later : (r : Result ℕ ℕ) → result_ok r ≡ None → result_ok (later r) ≡ None
none_later (Ok i) e = absurd (cc)
none_later (Err i) e = refl

ok_at : (i : ℕ) (r : Result ℕ ℕ) → Some i ≡ result_ok r → Ok i ≡ r
ok_at i (Ok j) e = cc
ok_at i (Err j) e = absurd (cc)

-- a formula stands at its place
pub place_of_formula : (fs : List Formula) (h : Formula) (i : ℕ) → set.IsRising formula_cmp fs → IsPlaceOf fs h i → Ok i ≡ place formula_cmp h fs
place_of_formula fs h i up there =
    place_of_search formula_cmp formula_total h fs up (Ok i) there.0 (λ d. tied_back formula_total h (get_or fs i d) ((Equal-is (formula_cmp h (get_or fs i d))).0 (there.1 d)))

pub no_place : (fs : List Formula) (h : Formula) → HasNotBetween fs 0 (length fs) h → result_ok (place formula_cmp h fs) ≡ None
no_place [] h without = refl
no_place (f ∷ fs) h without =
    elim (formula_cmp f h) as (λ r. formula_cmp f h ≡ r → result_ok (place_by r (place formula_cmp h fs)) ≡ None) [
      | Less ↦ λ e. none_later (place formula_cmp h fs) (no_place fs h (λ i d over under. without (suc i) d (omega arith) (omega arith)))
      | Equal ↦ λ e. absurd (clash (is_eq (formula_cmp h f)) (ap is_eq (tied_back formula_total f h e)) (without 0 f (omega arith) (omega arith)))
      | Greater ↦ λ e. refl
    ] refl

-- one more place where it doesn't stand
pub one_more : (fs : List Formula) (h f : Formula) (from at : ℕ) → at < length fs → f ≡ get_or fs at f → eq_by_cmp formula_cmp h f ≡ false → HasNotBetween fs from at h → HasNotBetween fs from (at + 1) h
one_more fs h f from at l is other without i d over under =
    elim (cases_lt i at) [
      | inl before ↦ without i d over before
      | inr behind ↦
          let same : i ≡ at = omega arith in
          ap (λ j. eq_by_cmp formula_cmp h (get_or fs j d)) same ∙ (ap (eq_by_cmp formula_cmp h) (get_or_default fs at d f l ∙ sym is) ∙ other)
    ]

-- two searches come to one
pub found_before : (fs : List Formula) (h : Formula) (near : ℕ) (o : Option ℕ) → set.IsRising formula_cmp fs → HasNotBetween fs near (length fs) h → IfSome o (IsPlaceOf fs h) → (IsNone o → HasNotBetween fs 0 near h) → o ≡ result_ok (place formula_cmp h fs)
found_before fs h near (Some i) up after there without = ap result_ok (place_of_formula fs h i up there)
found_before fs h near None up after there without =
    sym (no_place fs h (λ i d over under. elim (cases_lt i near) [ inl before ↦ without refl i d over before | inr behind ↦ after i d behind under ]))

-- the number at the place
pub in_range : (fs : List Formula) (h : Formula) (i : ℕ) → Some i ≡ result_ok (place formula_cmp h fs) → i < length fs
in_range fs h i e = tie_in_range formula_cmp h fs i (ok_at i (place formula_cmp h fs) e)

pub number_at_place : (fs : List Formula) (ns : List ℕ) (h : Formula) (i : ℕ) → set.IsRising formula_cmp fs → length ns ≡ length fs → Some i ≡ result_ok (place formula_cmp h fs) → number_in fs ns h ≡ Some (get_or ns i 0)
number_at_place fs ns h i up long e = number_by_place fs ns h up long ∙ sym (ap (number_at ns) (ok_at i (place formula_cmp h fs) e))

pub number_at_no_place : (fs : List Formula) (ns : List ℕ) (h : Formula) → set.IsRising formula_cmp fs → length ns ≡ length fs → None ≡ result_ok (place formula_cmp h fs) → number_in fs ns h ≡ None
number_at_no_place fs ns h up long e = number_by_place fs ns h up long ∙ none_at (place formula_cmp h fs) e
  where
    none_at : (r : Result ℕ ℕ) → None ≡ result_ok r → number_at ns r ≡ None
    none_at (Ok i) x = absurd (cc)
    none_at (Err i) x = refl
