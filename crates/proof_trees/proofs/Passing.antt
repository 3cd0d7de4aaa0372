-- Elements of lists that pass a test.
use Rattle.std.proofs.Common.{◌≡◌, Bool, true, false, ◌||◌, List, [], ◌∷◌, refl, ap, subst}
use Rattle.std.specs.declared.cmp.Ordering.{Ordering}
use Rattle.std.specs.List.{list_any}
use Rattle.std.specs.Ordering.{eq_by_cmp, is_eq}
use Rattle.std.specs.Cmp.{IsTotalOrder, tied_itself, Equal-is}
use Rattle.std.specs.FinMap as fin

or_true : (a b : Bool) → b ≡ true → (a || b) ≡ true
or_true true b e = refl
or_true false b e = e

module _ {K : Type 0} {R : K → K → Ordering} (o : IsTotalOrder R) (ties : fin.IsAntisymmetric R) where
  pub same_here : (q x : K) → eq_by_cmp R q x ≡ true → q ≡ x
  same_here q x e = ties q x ((Equal-is (R q x)).0 e)

  pub itself : (q : K) → eq_by_cmp R q q ≡ true
  itself q = ap is_eq (tied_itself o q)

  -- an element that passes
  pub passes : (p : K → Bool) (q : K) (xs : List K) → list_any (eq_by_cmp R q) xs ≡ true → p q ≡ true → list_any p xs ≡ true
  passes p q [] among pass = cc
  passes p q (x ∷ xs) among pass =
      elim (eq_by_cmp R q x) as (λ b. eq_by_cmp R q x ≡ b → (b || list_any (eq_by_cmp R q) xs) ≡ true → (p x || list_any p xs) ≡ true) [
        | true ↦ λ e _. ap (λ b. b || list_any p xs) (subst (λ (y : K). p y ≡ true) (same_here q x e) pass)
        | false ↦ λ e rest. or_true (p x) _ (passes p q xs rest pass)
      ] refl among

  pub one_passes : (p : K → Bool) (xs : List K) → list_any p xs ≡ true → (q : K) × (list_any (eq_by_cmp R q) xs ≡ true) × (p q ≡ true)
  one_passes p [] any = absurd (cc)
  one_passes p (x ∷ xs) any =
      elim (p x) as (λ b. p x ≡ b → (b || list_any p xs) ≡ true → (q : K) × (list_any (eq_by_cmp R q) (x ∷ xs) ≡ true) × (p q ≡ true)) [
        | true ↦ λ e _. (x, ap (λ b. b || list_any (eq_by_cmp R x) xs) (itself x), e)
        | false ↦ λ e rest. let later = one_passes p xs rest in (later.0, or_true (eq_by_cmp R later.0 x) _ later.1, later.2)
      ] refl any
