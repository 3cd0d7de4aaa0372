-- The tuples of a tree that is rightly built rise, since the terms of its instances do.
use Rattle.std.proofs.Common.{◌≡◌, ℕ, zero, suc, true, ◌&&◌, List, [], ◌∷◌, ◌++◌, map, refl, ap, ◌∙◌}
use Rattle.std.specs.List.{AllByRecursion}
use Rattle.std.specs.List.Sorted.{IsStrictlySortedBy}
use Rattle.std.specs.Cmp.{tied_itself}
use Rattle.std.specs.Ordering.{ordering_then}
use Rattle.std.specs.declared.cmp.Ordering.{Ordering}
use Rattle.std.specs.declared.cmp.Ordering.TheVariants.{Less, Equal, Greater}
use Rattle.fol.specs.Syntax.{Term, Terms, nil, cons, Formula}
use Rattle.fol.specs.Order.{term_cmp, terms_cmp}
use Rattle.fol.specs.OrderLaws.{term_total}
use Rattle.finite.specs.Finite as set
use Rattle.free_variables.proofs.RisingLists.{rising_of_strict}
use Rattle.lk_rules.proofs.Subsequents.{and_left, and_right}
use Rattle.expansion_laws.specs.Expansions.{Exp, wk, weak, Insts, none, more, shallow}
use Rattle.expansion_laws.specs.Building.{is_instance, is_quantified, is_less, is_below, is_built, are_built}
use Rattle.herbrand_laws.specs.Herbrand.{tuples, tuples_in}

-- one list of rising elements after another
module _ {K : Type 0} (R : K → K → Ordering) where
  each_appended : (P : K → Type 0) (xs ys : List K) → AllByRecursion P xs → AllByRecursion P ys → AllByRecursion P (xs ++ ys)
  each_appended P [] ys h g = g
  each_appended P (x ∷ xs) ys h g = (h.0, each_appended P xs ys h.1 g)

  rises_appended : (xs ys : List K) → IsStrictlySortedBy R xs → IsStrictlySortedBy R ys → AllByRecursion (λ x. AllByRecursion (λ y. R x y ≡ Less) ys) xs → IsStrictlySortedBy R (xs ++ ys)
  unfolding IsStrictlySortedBy
  rises_appended [] ys h g f = g
  rises_appended (x ∷ xs) ys h g f = (each_appended (λ y. R x y ≡ Less) xs ys h.0 f.0, rises_appended xs ys h.1 g f.1)

less_is : (o : Ordering) → is_less o ≡ true → o ≡ Less
less_is Less e = refl
less_is Equal e = cc
less_is Greater e = cc

is_less_of : (o : Ordering) → o ≡ Less → is_less o ≡ true
is_less_of o e = ap is_less e

-- tuples with one first term are as the others of their terms are
one_first : (t : Term) (us vs : Terms) → terms_cmp us vs ≡ Less → terms_cmp (cons t us) (cons t vs) ≡ Less
one_first t us vs e = ap (λ o. ordering_then o (terms_cmp us vs)) (tied_itself term_total t) ∙ e

each_first : (t : Term) (us : Terms) (vss : List Terms) → AllByRecursion (λ vs. terms_cmp us vs ≡ Less) vss → AllByRecursion (λ vs. terms_cmp (cons t us) vs ≡ Less) (map (cons t) vss)
each_first t us [] h = tt
each_first t us (vs ∷ vss) h = (one_first t us vs h.0, each_first t us vss h.1)

all_first : (t : Term) (uss : List Terms) → IsStrictlySortedBy terms_cmp uss → IsStrictlySortedBy terms_cmp (map (cons t) uss)
unfolding IsStrictlySortedBy
all_first t [] h = tt
all_first t (us ∷ uss) h = (each_first t us uss h.0, all_first t uss h.1)

-- a tuple whose first term is below those of some instances is below their tuples

later_first : (t u : Term) (us : Terms) (vss : List Terms) → term_cmp t u ≡ Less → AllByRecursion (λ vs. terms_cmp (cons t us) vs ≡ Less) (map (cons u) vss)
later_first t u us [] e = tt
later_first t u us (vs ∷ vss) e = (ap (λ o. ordering_then o (terms_cmp us vs)) e, later_first t u us vss e)

below_next : (t u : Term) (is : Insts) → term_cmp t u ≡ Less → is_below u is ≡ true → is_below t is ≡ true
below_next t u none e h = refl
below_next t u (more v d is) e h = is_less_of (term_cmp t v) (term_total.trans t u v e (less_is (term_cmp u v) h))

below_tuples : (f : Formula) (n : ℕ) (t : Term) (us : Terms) (is : Insts) → is_below t is ≡ true → are_built f is ≡ true → AllByRecursion (λ vs. terms_cmp (cons t us) vs ≡ Less) (tuples_in n is)
below_tuples f n t us none h b = tt
below_tuples f n t us (more u e is) h b =
    let under = less_is (term_cmp t u) h in
    let others = and_right (is_instance f u (shallow e) && is_built e) (is_below u is && are_built f is) b in
    each_appended terms_cmp (λ vs. terms_cmp (cons t us) vs ≡ Less) (map (cons u) (tuples n e)) (tuples_in n is)
    (later_first t u us (tuples n e) under)
    (below_tuples f n t us is (below_next t u is under (and_left (is_below u is) (are_built f is) others)) (and_right (is_below u is) (are_built f is) others))

all_below : (f : Formula) (n : ℕ) (t : Term) (is : Insts) → is_below t is ≡ true → are_built f is ≡ true → (uss : List Terms) → AllByRecursion (λ us. AllByRecursion (λ vs. terms_cmp us vs ≡ Less) (tuples_in n is)) (map (cons t) uss)
all_below f n t is h b [] = tt
all_below f n t is h b (us ∷ uss) = (below_tuples f n t us is h b, all_below f n t is h b uss)

one_rises : (us : Terms) → IsStrictlySortedBy terms_cmp (us ∷ [])
unfolding IsStrictlySortedBy
one_rises us = (tt, tt)

none_rises : IsStrictlySortedBy terms_cmp []
unfolding IsStrictlySortedBy
none_rises = tt

mutual
  tuples_sorted : (n : ℕ) (e : Exp) → is_built e ≡ true → IsStrictlySortedBy terms_cmp (tuples n e)
  tuples_sorted n (wk f) b = none_rises
  tuples_sorted zero e b = one_rises nil
  tuples_sorted (suc n) (weak f is) b = insts_sorted n f is (and_right (is_quantified f) (are_built f is) b)
  tuples_sorted (suc n) e b = none_rises

  insts_sorted : (n : ℕ) (f : Formula) (is : Insts) → are_built f is ≡ true → IsStrictlySortedBy terms_cmp (tuples_in n is)
  insts_sorted n f none b = none_rises
  insts_sorted n f (more t e is) b =
      let child = and_left (is_instance f t (shallow e) && is_built e) (is_below t is && are_built f is) b in
      let others = and_right (is_instance f t (shallow e) && is_built e) (is_below t is && are_built f is) b in
      rises_appended terms_cmp (map (cons t) (tuples n e)) (tuples_in n is)
      (all_first t (tuples n e) (tuples_sorted n e (and_right (is_instance f t (shallow e)) (is_built e) child)))
      (insts_sorted n f is (and_right (is_below t is) (are_built f is) others))
      (all_below f n t is (and_left (is_below t is) (are_built f is) others) (and_right (is_below t is) (are_built f is) others) (tuples n e))

-- each tuple is below those after it
pub tuples_rise : (n : ℕ) (e : Exp) → is_built e ≡ true → set.IsRising terms_cmp (tuples n e)
tuples_rise n e b = rising_of_strict terms_cmp (tuples n e) (tuples_sorted n e b)
