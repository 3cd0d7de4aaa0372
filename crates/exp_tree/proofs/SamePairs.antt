-- The test of lists of terms and places is equality.
use Rattle.std.proofs.Common.{◌≡◌, ◌↔◌, ℕ, Bool, ◌&&◌, List, sym, ap, ◌∙◌, refl}
use Rattle.std.specs.Prelude.{nat_eq, IsTrue}
use Rattle.std.specs.Bool.{Decides}
use Rattle.std.specs.Ordering.{eq_by_cmp}
use Rattle.std.specs.Cmp.{unsigned_Decides}
use Rattle.std.specs.Cmp.Derive.{both_true}
use Rattle.std.specs.Cmp.Lexicographic.{pointwise, pointwise_decides}
use Rattle.std.proofs.lemmas.Bool.{and_parts}
use Rattle.fol.specs.Syntax.{Term}
use Rattle.fol.specs.Order.{term_cmp}
use Rattle.fol.proofs.OrderTies.{term_equality_same}

abbrev same_pair : Term × ℕ → Term × ℕ → Bool
same_pair i j = eq_by_cmp term_cmp i.0 j.0 && nat_eq i.1 j.1

same_pairs : (i j : Term × ℕ) → Decides (same_pair i j) (i ≡ j)
same_pairs i j =
    let terms = term_equality_same i.0 j.0 (eq_by_cmp term_cmp i.0 j.0) refl in
    let places = unsigned_Decides i.1 j.1 in (
      λ h. let both = and_parts (eq_by_cmp term_cmp i.0 j.0) (nat_eq i.1 j.1) h in λ k. (terms.0 both.0 k, places.0 both.1 k),
      λ e. both_true (terms.1 (ap (λ (p : Term × ℕ). p.0) e)) (places.1 (ap (λ (p : Term × ℕ). p.1) e)),
    )

pub pairs_same : (xs ys : List (Term × ℕ)) (b : Bool) → b ≡ pointwise same_pair xs ys → IsTrue b ↔ (xs ≡ ys)
pairs_same xs ys b is = (λ h. (pointwise_decides same_pairs xs ys).0 (sym is ∙ h), λ e. is ∙ (pointwise_decides same_pairs xs ys).1 e)
