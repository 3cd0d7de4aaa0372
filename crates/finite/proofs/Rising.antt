-- What a rising list says of its elements.
use Rattle.std.proofs.Common.{◌≡◌, ℕ, zero, suc, ◌<◌, Bool, true, false, ◌&&◌, T, List, [], ◌∷◌, length, get_or, refl, sym, ap, subst, ◌∙◌, arith}
use Rattle.std.specs.declared.cmp.Ordering.{Ordering}
use Rattle.std.specs.declared.cmp.Ordering.TheVariants.{Less, Equal, Greater}
use Rattle.std.specs.Cmp.{IsTotalOrder}
use Rattle.std.specs.Ordering.{is_lt, eq_by_cmp, ordering_reverse}
use Rattle.std.specs.List.{list_any}
use Rattle.std.specs.FinMap.Entries.{below_all}
use Rattle.finite.specs.Finite.{marked, IsRising}

pub first : (a b : Bool) → T (a && b) → T a
first true b h = tt
first false b h = h

pub second : (a b : Bool) → T (a && b) → T b
second true b h = h
second false b h = absurd h

pub both : (a b : Bool) → T a → T b → T (a && b)
both true b g h = h
both false b g h = g

pub less : (r : Ordering) → T (is_lt r) → r ≡ Less
less Less h = refl
less Equal h = absurd h
less Greater h = absurd h

pub is_less : (r : Ordering) → r ≡ Less → T (is_lt r)
is_less r e = subst (λ s. T (is_lt s)) (sym e) tt

module _ {K : Type 0} (R : K → K → Ordering) where
  -- x is below each element of xs
  abbrev pub IsBelow : K → List K → Type 0
  IsBelow x xs = T (below_all R x (marked xs))

  pub head_below : (x : K) (xs : List K) → IsRising R (x ∷ xs) → IsBelow x xs
  head_below x xs h = first _ _ h

  pub tail_rises : (x : K) (xs : List K) → IsRising R (x ∷ xs) → IsRising R xs
  tail_rises x xs h = second _ _ h

  pub below_at : (x : K) (xs : List K) → IsBelow x xs → (i : ℕ) (d : K) → i < length xs → R x (get_or xs i d) ≡ Less
  below_at x [] h i d l = absurd (omega arith)
  below_at x (y ∷ ys) h zero d l = less _ (first (is_lt (R x y)) (below_all R x (marked ys)) h)
  below_at x (y ∷ ys) h (suc i) d l = below_at x ys (second (is_lt (R x y)) (below_all R x (marked ys)) h) i d (omega arith)

  -- an earlier element is below a later one
  pub rising_at : (xs : List K) → IsRising R xs → (i j : ℕ) (d : K) → i < j → j < length xs → R (get_or xs i d) (get_or xs j d) ≡ Less
  rising_at [] h i j d l m = absurd (omega arith)
  rising_at (x ∷ xs) h zero zero d l m = absurd (omega arith)
  rising_at (x ∷ xs) h zero (suc j) d l m = below_at x xs (head_below x xs h) j d (omega arith)
  rising_at (x ∷ xs) h (suc i) zero d l m = absurd (omega arith)
  rising_at (x ∷ xs) h (suc i) (suc j) d l m = rising_at xs (tail_rises x xs h) i j d (omega arith) (omega arith)

  -- what is above x is above y, so y is below each element too
  pub below_along : (x y : K) → ((z : K) → R x z ≡ Less → R y z ≡ Less) → (zs : List K) → IsBelow x zs → IsBelow y zs
  below_along x y f [] h = tt
  below_along x y f (z ∷ zs) h =
      let here : T (is_lt (R x z)) = first _ _ h in
      let rest : IsBelow x zs = second _ _ h in
      both _ _ (is_less _ (f z (less _ here))) (below_along x y f zs rest)

  -- no element ties with what is below each
  pub below_none : (x : K) (ys : List K) → IsBelow x ys → list_any (eq_by_cmp R x) ys ≡ false
  below_none x [] h = refl
  below_none x (y ∷ ys) h =
      let here : T (is_lt (R x y)) = first _ _ h in
      let rest : IsBelow x ys = second _ _ h in
      rw (less _ here) (below_none x ys rest)

  module _ (o : IsTotalOrder R) where
    pub turned : (x y : K) → R x y ≡ Greater → R y x ≡ Less
    turned x y e = o.antisymm y x ∙ ap ordering_reverse e

    pub turned_less : (x y : K) → R x y ≡ Less → R y x ≡ Greater
    turned_less x y e = o.antisymm y x ∙ ap ordering_reverse e

    pub below_less : (x y : K) (zs : List K) → R y x ≡ Less → IsBelow x zs → IsBelow y zs
    below_less x y zs e = below_along x y (λ z l. o.trans y x z e l) zs

    pub below_tied : (x y : K) (zs : List K) → R x y ≡ Equal → IsBelow x zs → IsBelow y zs
    below_tied x y zs e = below_along x y (λ z l. sym (o.congr x y z e) ∙ l) zs
