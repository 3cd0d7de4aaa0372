-- The lists that show sets of well-formed formulas.
use Rattle.std.proofs.Common.{◌≡◌, ◌↔◌, IsTrue, Bool, true, List, Result, Ok, Err, OnOk, OnErr, refl, sym, ap, subst, ◌∙◌}
use Rattle.std.specs.declared.cmp.Ordering.TheVariants.{Equal}
use Rattle.std.specs.List.{All, list_all, list_any}
use Rattle.std.specs.Ordering.{eq_by_cmp}
use Rattle.std.specs.Set.{sorted_merge}
use Rattle.std.proofs.lemmas.Cmp.{eq_by_cmp_equiv}
use Rattle.std.proofs.lemmas.List.Sums.{list_all-from_AllPass}
use lib.Pointwise.{pointwise_decides}
use Rattle.fol.specs.Syntax.{Formula}
use Rattle.fol.specs.Order.{formula_cmp}
use Rattle.fol.specs.OrderLaws.{formula_total}
use Rattle.fol.proofs.OrderTies.{formula_ties, formula_equality_same}
use Rattle.finite.specs.Finite as set
use Rattle.finite.proofs.Finite.{has-listing, listing-of_rising, of_rising-listing, all-adds}
use Rattle.fol.specs.Formed.{is_formed, IsFormed}
use Rattle.free_variables.proofs.RisingLists.{list_passes, merge_rises, merge_passes}
use Rattle.lk_rules.specs.Formulas.{FormulaSet, IsListing, same_formulas}

-- a test of formulas answers alike at formulas that tie, since they are equal
pub alike : (p : Formula → Bool) (f g : Formula) → formula_cmp f g ≡ Equal → p g ≡ p f
alike p f g e = ap p (sym (formula_ties f g e))

-- a rising list that shows a set with one more formula
pub added_listing : {E : Type 0} (r : Result (Unit {0}) E) (old new : List Formula) (f : Formula) → IsListing old → IsFormed f → set.IsRising formula_cmp new
    → OnOk r (set.of_rising {R = formula_cmp} new ≡ set.adds (set.of_rising old) f) → OnErr r (new ≡ old) → IsListing new
added_listing (Ok u) old new f h formed up is same =
    let before : list_all is_formed (set.listing (set.of_rising {R = formula_cmp} old)) ≡ true = ap (list_all is_formed) (listing-of_rising formula_cmp old h.rises) ∙ h.formed in
    record {
      rises = up;
      formed = ap (list_all is_formed) (sym (listing-of_rising formula_cmp new up) ∙ ap set.listing is) ∙ all-adds formula_total is_formed (alike is_formed) (set.of_rising old) f before formed;
    }
added_listing (Err e) old new f h formed up is same = subst (λ fs. IsListing fs) (sym same) h

-- a rising list with the formulas of a list of well-formed formulas
pub listing_of_list : (new old : List Formula) → All IsFormed old → set.IsRising formula_cmp new
    → ((q : Formula) → list_any (eq_by_cmp formula_cmp q) new ≡ list_any (eq_by_cmp formula_cmp q) old) → IsListing new
listing_of_list new old formed up same = record {
  rises = up;
  formed = list_passes formula_total is_formed (alike is_formed) new old (list_all-from_AllPass is_formed old formed) same;
}

-- the merge of two lists
pub listing_of_merge : (xs ys : List Formula) → IsListing xs → IsListing ys → IsListing (sorted_merge formula_cmp true xs ys)
listing_of_merge xs ys h g = record {
  rises = merge_rises formula_total formula_ties xs ys h.rises g.rises;
  formed = merge_passes formula_total is_formed (alike is_formed) xs ys h.formed g.formed;
}

formula_decides : (f g : Formula) → (eq_by_cmp formula_cmp f g ≡ true → f ≡ g) × (f ≡ g → eq_by_cmp formula_cmp f g ≡ true)
formula_decides f g = let both = formula_equality_same f g (eq_by_cmp formula_cmp f g) refl in (both.0, both.1)

-- sets whose lists are alike are equal
pub formulas_equality_same : (s t : FormulaSet) (r : Bool) → r ≡ same_formulas s t → IsTrue r ↔ (s ≡ t)
formulas_equality_same s t r e =
    let lists = pointwise_decides formula_decides (set.listing s) (set.listing t) in
    (λ yes. sym (of_rising-listing s) ∙ ap set.of_rising (lists.0 (sym e ∙ yes)) ∙ of_rising-listing t, λ same. e ∙ lists.1 (ap set.listing same))

-- a set has the formulas of its list
pub has_listed : (s : FormulaSet) (q : Formula) → set.has s q ≡ list_any (eq_by_cmp formula_cmp q) (set.listing s)
has_listed s q = has-listing s q

-- the test of equality does not mind the order of the two
pub equal_either_way : (f g : Formula) → eq_by_cmp formula_cmp f g ≡ eq_by_cmp formula_cmp g f
equal_either_way f g = (eq_by_cmp_equiv formula_total).symm f g
