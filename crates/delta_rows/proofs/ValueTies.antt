-- Only equal sets of terms tie.
use Rattle.std.proofs.Common.{◌≡◌, true, List, [], ◌∷◌, refl, sym, ap, subst, ◌∙◌}
use Rattle.std.specs.declared.cmp.Ordering.TheVariants.{Equal}
use Rattle.std.specs.Cmp.{Equal-is, tied_itself}
use Rattle.std.specs.Ordering.{eq_by_cmp}
use Rattle.std.specs.Cmp.Lexicographic.{pointwise}
use Rattle.std.specs.FinMap as fin
use Rattle.fol.specs.Syntax.{Term}
use Rattle.fol.specs.Order.{term_cmp}
use Rattle.fol.proofs.OrderTies.{term_ties, then_ties, term_equality_same}
use Rattle.finite.specs.Finite as set
use Rattle.finite.proofs.Finite.{of_rising-listing}
use Rattle.lk_rules.proofs.Subsequents.{and_both}
use Rattle.search_laws.proofs.Tests.{same_truth}
use Rattle.herbrand_laws.specs.Patterns.{TermSet}
use Rattle.herbrand_laws.specs.Candidates.{same_terms}
use Rattle.herbrand_laws.proofs.Patterns.{same_lists}
use Rattle.delta_rows.specs.ValueOrder.{values_cmp, values_total}

pub values_tie : (v w : TermSet) → values_cmp v w ≡ Equal → v ≡ w
values_tie v w e =
    let lists = fin.slice_cmp-IsAntisymmetric term_ties (set.listing v) (set.listing w) (then_ties _ _ e).1 in
    sym (of_rising-listing v) ∙ (ap set.of_rising lists ∙ of_rising-listing w)

pub same_sets : (v w : TermSet) → same_terms v w ≡ true → v ≡ w
same_sets v w e = sym (of_rising-listing v) ∙ (ap set.of_rising (same_lists (set.listing v) (set.listing w) e) ∙ of_rising-listing w)

pointwise_itself : (vs : List Term) → pointwise (eq_by_cmp term_cmp) vs vs ≡ true
pointwise_itself [] = refl
pointwise_itself (v ∷ vs) = and_both _ _ ((term_equality_same v v _ refl).1 refl) (pointwise_itself vs)

pub same_itself : (v : TermSet) → same_terms v v ≡ true
same_itself v = pointwise_itself (set.listing v)

pub equal_sets : (v w : TermSet) → v ≡ w → same_terms v w ≡ true
equal_sets v w e = subst (λ x. same_terms v x ≡ true) e (same_itself v)

tied : (v w : TermSet) → v ≡ w → eq_by_cmp values_cmp v w ≡ true
tied v w e = subst (λ x. eq_by_cmp values_cmp v x ≡ true) e ((Equal-is (values_cmp v v)).1 (tied_itself values_total v))

pub same_by_cmp : (v w : TermSet) → eq_by_cmp values_cmp v w ≡ same_terms v w
same_by_cmp v w =
    same_truth (eq_by_cmp values_cmp v w) (same_terms v w)
    (λ e. equal_sets v w (values_tie v w ((Equal-is (values_cmp v w)).0 e)))
    (λ e. tied v w (same_sets v w e))
