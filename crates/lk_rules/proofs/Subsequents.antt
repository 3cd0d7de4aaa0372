-- The test of subsequents and the fact.
use Rattle.std.proofs.Common.{◌≡◌, ◌↔◌, IsTrue, Bool, true, false, ◌&&◌, refl, sym, ap, ◌∙◌}
use Rattle.fol.specs.OrderLaws.{formula_total}
use Rattle.finite.proofs.Finite.{members_of_subset, subset_of_members}
use Rattle.lk_rules.specs.declared.sequent.Sequent.{Sequent}
use Rattle.lk_rules.specs.Formulas.{same_formulas}
use Rattle.lk_rules.specs.Sequents.{is_subsequent, IsSubsequent, same_sequents}
use Rattle.lk_rules.proofs.Listings.{formulas_equality_same}

pub and_left : (a b : Bool) → (a && b) ≡ true → a ≡ true
and_left true b e = refl
and_left false b e = e

pub and_right : (a b : Bool) → (a && b) ≡ true → b ≡ true
and_right true b e = e
and_right false b e = cc

pub and_both : (a b : Bool) → a ≡ true → b ≡ true → (a && b) ≡ true
and_both a b p q = rw p q

pub subsequent_of : (s t : Sequent) → is_subsequent s t ≡ true → IsSubsequent s t
subsequent_of s t e = record {
  left = members_of_subset formula_total s.left t.left (and_left _ _ e);
  right = members_of_subset formula_total s.right t.right (and_right _ _ e);
}

pub is_subsequent_of : (s t : Sequent) → IsSubsequent s t → is_subsequent s t ≡ true
is_subsequent_of s t h =
    and_both _ _ (subset_of_members formula_total s.left t.left h.left) (subset_of_members formula_total s.right t.right h.right)

pub subsequent_tested : (s t : Sequent) (r : Bool) → r ≡ is_subsequent s t → IsTrue r ↔ IsSubsequent s t
subsequent_tested s t r e = (λ p. subsequent_of s t (sym e ∙ p), λ h. e ∙ is_subsequent_of s t h)

-- sequents that have the same formulas on each side are equal
pub sequents_equality_same : (s t : Sequent) (r : Bool) → r ≡ same_sequents s t → IsTrue r ↔ (s ≡ t)
sequents_equality_same s t r e =
    let lefts = formulas_equality_same s.left t.left (same_formulas s.left t.left) refl in
    let rights = formulas_equality_same s.right t.right (same_formulas s.right t.right) refl in (
      λ yes.
          let lists : same_sequents s t ≡ true = sym e ∙ yes in
          λ i. record { left = lefts.0 (and_left _ _ lists) i; right = rights.0 (and_right (same_formulas s.left t.left) _ lists) i },
      λ same. e ∙ and_both _ _ (lefts.1 (ap (λ q. q.left) same)) (rights.1 (ap (λ q. q.right) same)),
    )
