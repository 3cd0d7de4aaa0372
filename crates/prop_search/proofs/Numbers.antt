-- Where a listed formula stands.
use Rattle.std.proofs.Common.{◌≡◌, ℕ, suc, ◌<◌, true, false, List, [], ◌∷◌, length, get_or, Result, Ok, Err, is_ok, refl, sym, ap, subst, ◌∙◌, arith}
use Rattle.std.specs.declared.cmp.Ordering.TheVariants.{Less, Equal, Greater}
use Rattle.std.proofs.lemmas.List.{get_or_read}
use Rattle.fol.specs.Syntax.{Formula, top}
use Rattle.fol.specs.Order.{formula_cmp}
use Rattle.fol.specs.OrderLaws.{formula_total}
use Rattle.fol.proofs.OrderTies.{formula_ties}
use Rattle.finite.specs.Finite as set
use Rattle.finite.specs.Place.{place, place_by, later}
use Rattle.finite.proofs.Finite.{has-of_rising}
use Rattle.finite.proofs.Places.{has-place}
use Rattle.prop_search.specs.Formulas.{formula_at, is_listed, IsNumberOf}
use Rattle.prop_search.specs.Parts.{HasParts, IsClosed}
use Rattle.prop_search.proofs.SideMembers.{listed_at}

next_place : (f g : Formula) (fs : List Formula) (r : Result ℕ ℕ) (i : ℕ) → ((j : ℕ) → r ≡ Ok j → IsNumberOf fs j f) → later r ≡ Ok i → IsNumberOf (g ∷ fs) i f
next_place f g fs (Ok j) i h e =
    let same : suc j ≡ i = cc in
    let at = h j refl in
    (omega (arith, at.0), ap (formula_at (g ∷ fs)) (sym same) ∙ at.1)
next_place f g fs (Err j) i h e = cc

-- the place of a formula that is found is its number
pub found_place : (f : Formula) (fs : List Formula) (i : ℕ) → place formula_cmp f fs ≡ Ok i → IsNumberOf fs i f
found_place f [] i e = cc
found_place f (g ∷ fs) i e =
    elim (formula_cmp g f) as (λ o. formula_cmp g f ≡ o → place_by o (place formula_cmp f fs) ≡ Ok i → IsNumberOf (g ∷ fs) i f) [
      | Less ↦ λ _ h. next_place f g fs (place formula_cmp f fs) i (found_place f fs) h
      | Equal ↦ λ tie h. let same : 0 ≡ i = cc in (omega arith, ap (formula_at (g ∷ fs)) (sym same) ∙ formula_ties g f tie)
      | Greater ↦ λ _ h. cc
    ] refl e

-- a listed formula is found
pub found_listed : (f : Formula) (fs : List Formula) (i : ℕ) → set.IsRising formula_cmp fs → is_listed fs f ≡ true → place formula_cmp f fs ≡ Err i → ⊥
found_listed f fs i up m e =
    let there : is_ok (place formula_cmp f fs) ≡ true = has-place formula_cmp formula_total f fs up ∙ (has-of_rising formula_cmp fs up f ∙ m) in
    let none : is_ok (place formula_cmp f fs) ≡ false = ap is_ok e in
    cc

-- the parts of a listed formula
pub parts_at : (fs : List Formula) (n : ℕ) (f : Formula) → IsClosed fs → n < length fs → f ≡ get_or fs n f → HasParts fs f
parts_at fs n f h l is =
    let same : formula_at fs n ≡ f = sym (get_or_read fs n f l is top) in
    subst (HasParts fs) same (h.parts (formula_at fs n) (listed_at fs n l))
