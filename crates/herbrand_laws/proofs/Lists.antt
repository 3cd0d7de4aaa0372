-- Tests of lists, and what holds of each element.
use Rattle.std.proofs.Common.{◌≡◌, Bool, true, false, not, ◌&&◌, ◌||◌, cond, List, [], ◌∷◌, map, Option, Some, None, IfSome, refl, sym, ap, ◌∙◌}
use Rattle.std.specs.List.{All, list_any, list_all, filter, filter_map, cons_option, flat_map}
use Rattle.std.specs.Cmp.{IsTotalOrder}
use Rattle.std.specs.declared.cmp.Ordering.{Ordering}
use Rattle.std.specs.declared.cmp.Ordering.TheVariants.{Equal}
use Rattle.std.proofs.lemmas.List.Elements.{All-nil, All-cons, All-head, All-tail, All-append}
use Rattle.finite.specs.Finite as set
use Rattle.finite.proofs.Finite.{of_rising-empty, listing-of_rising, all-adds}
use Rattle.proof_trees.proofs.Booleans.{or_first, or_second, either, or_more}

-- a test of mapped elements
pub any-map : {V W : Type 0} (p : W → Bool) (f : V → W) (xs : List V) → list_any p (map f xs) ≡ list_any (λ v. p (f v)) xs
any-map p f [] = refl
any-map p f (v ∷ vs) = ap (λ b. p (f v) || b) (any-map p f vs)

-- some element passes what follows from what it passes
pub any_more : {V : Type 0} (p q : V → Bool) (xs : List V) → ((v : V) → p v ≡ true → q v ≡ true) → list_any p xs ≡ true → list_any q xs ≡ true
any_more p q [] f e = cc
any_more p q (v ∷ vs) f e = either (p v) (list_any p vs) (λ here. or_first (q v) (list_any q vs) (f v here)) (λ later. or_second (q v) (list_any q vs) (any_more p q vs f later)) e

-- what follows from an element that passes, and of which P holds
pub from_any : {V : Type 0} {Q : Type 0} (P : V → Type 0) (p : V → Bool) (xs : List V) → All P xs → ((v : V) → P v → p v ≡ true → Q) → list_any p xs ≡ true → Q
from_any P p [] h f e = cc
from_any P p (v ∷ vs) h f e = either (p v) (list_any p vs) (f v (All-head P v vs h)) (from_any P p vs (All-tail P v vs h) f) e

kept_all : {Y : Type 0} (P : Y → Type 0) (o : Option Y) (ys : List Y) → IfSome o P → All P ys → All P (cons_option o ys)
kept_all P None ys h g = g
kept_all P (Some y) ys h g = All-cons P y ys h g

module _ {X Y : Type 0} (P : Y → Type 0) where
  -- P holds of what a map gives, where it does of each element for which it gives something
  pub all-filter_map : (h : X → Option Y) (xs : List X) → All (λ x. IfSome (h x) P) xs → All P (filter_map h xs)
  all-filter_map h [] g = All-nil P
  all-filter_map h (x ∷ xs) g = kept_all P (h x) (filter_map h xs) (All-head (λ y. IfSome (h y) P) x xs g) (all-filter_map h xs (All-tail (λ y. IfSome (h y) P) x xs g))

  -- P holds of the elements of several lists
  pub all-flat_map : (f : X → List Y) (xs : List X) → All (λ x. All P (f x)) xs → All P (flat_map f xs)
  all-flat_map f [] g = All-nil P
  all-flat_map f (x ∷ xs) g = All-append P (f x) (flat_map f xs) (All-head (λ y. All P (f y)) x xs g) (all-flat_map f xs (All-tail (λ y. All P (f y)) x xs g))

module _ {K : Type 0} {R : K → K → Ordering} (o : IsTotalOrder R) (p : K → Bool) (alike : (q x : K) → R q x ≡ Equal → p x ≡ p q) where
  all-adds_each : (s : set.Finite R) (ks : List K) → list_all p (set.listing s) ≡ true → All (λ k. p k ≡ true) ks → list_all p (set.listing (set.adds_each s ks)) ≡ true
  all-adds_each s [] h g = h
  all-adds_each s (k ∷ ks) h g = all-adds_each (set.adds s k) ks (all-adds o p alike s k h (All-head (λ x. p x ≡ true) k ks g)) (All-tail (λ x. p x ≡ true) k ks g)

  -- each member of the set of a list passes, where each element does
  pub all-set_of_keys : (ks : List K) → All (λ k. p k ≡ true) ks → list_all p (set.listing (set.adds_each (set.empty {R = R}) ks)) ≡ true
  all-set_of_keys ks = all-adds_each set.empty ks (ap (list_all p) (ap set.listing (sym (of_rising-empty R)) ∙ listing-of_rising R [] tt))

-- some element of the first list passes with some element of the second, whichever is sought first
pub any_swapped : {V W : Type 0} (p : V → W → Bool) (xs : List V) (ys : List W) → list_any (λ x. list_any (λ y. p x y) ys) xs ≡ true → list_any (λ y. list_any (λ x. p x y) xs) ys ≡ true
any_swapped p [] ys e = cc
any_swapped p (x ∷ xs) ys e =
    either (list_any (λ y. p x y) ys) (list_any (λ z. list_any (λ y. p z y) ys) xs)
    (any_more (λ y. p x y) (λ y. p x y || list_any (λ z. p z y) xs) ys (λ y. or_first (p x y) (list_any (λ z. p z y) xs)))
    (λ later. any_more (λ y. list_any (λ z. p z y) xs) (λ y. p x y || list_any (λ z. p z y) xs) ys (λ y. or_second (p x y) (list_any (λ z. p z y) xs)) (any_swapped p xs ys later))
    e

-- an element that passes is one of those that pass another test, or one of the rest
pub any_divided : {V : Type 0} (p q : V → Bool) (xs : List V) → list_any q xs ≡ true → (list_any (λ x. p x && q x) xs || list_any q (filter (λ x. not (p x)) xs)) ≡ true
any_divided p q [] e = cc
any_divided {V} p q (x ∷ xs) e =
    let those = list_any (λ y. p y && q y) xs in
    let others = filter (λ y. not (p y)) xs in
    let later = any_divided p q xs in
    elim (p x) as (λ b. ((b && q x || those) || list_any q (cond (not b) (x ∷ others) others)) ≡ true) [
      | true ↦
          either (q x) (list_any q xs)
          (λ here. or_first (q x || those) (list_any q others) (or_first (q x) those here))
          (λ r. or_more those (list_any q others) (q x || those) (list_any q others) (or_second (q x) those) (λ m. m) (later r))
          e
      | false ↦
          either (q x) (list_any q xs)
          (λ here. or_second those (q x || list_any q others) (or_first (q x) (list_any q others) here))
          (λ r. or_more those (list_any q others) those (q x || list_any q others) (λ m. m) (or_second (q x) (list_any q others)) (later r))
          e
    ]
