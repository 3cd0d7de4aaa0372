-- What lists of numbers show as sets, where different numbers have different things.
use Rattle.std.proofs.Common.{◌≡◌, ℕ, Bool, true, false, not, ◌&&◌, List, ◌∷◌, ◌++◌, map, refl, sym, ap, ◌∙◌, subst}
use Rattle.std.specs.declared.cmp.Ordering.{Ordering}
use Rattle.std.specs.List.{All, list_any}
use Rattle.std.specs.Ordering.{nat_cmp, eq_by_cmp}
use Rattle.std.specs.Cmp.{IsTotalOrder}
use Rattle.std.proofs.lemmas.Cmp.{nat_cmp_total}
use Rattle.std.proofs.lemmas.List.{map-append}
use Rattle.std.specs.FinMap as fin
use Rattle.finite.specs.Finite as set
use Rattle.finite.proofs.Finite.{has-of_rising, members_of_subset, subset_of_members}
use Rattle.free_variables.specs.Union.{union_of}
use Rattle.arena.specs.Lists.{HasSameMembers}
use Rattle.arena_cells.proofs.Sets.{has-set_of, found_by_number}
use Rattle.arena.proofs.SetLaws.{same_truth, list_any-map, set_append, set_cons, shown_alike, among}
use Rattle.proof_trees.proofs.Passing.{same_here, itself, passes, one_passes}

and_left : (a b : Bool) → (a && b) ≡ true → a ≡ true
and_left true b h = refl
and_left false b h = h

and_right : (a b : Bool) → (a && b) ≡ true → b ≡ true
and_right true b h = h
and_right false b h = cc

and_both : (a b : Bool) → a ≡ true → b ≡ true → (a && b) ≡ true
and_both a b h g = (λ i. h i && g i)

not_true : (b : Bool) → not b ≡ true → b ≡ false
not_true true h = cc
not_true false h = refl

not_false : (b : Bool) → (b ≡ true → ⊥) → not b ≡ true
not_false true h = absurd (h refl)
not_false false h = refl

-- a set is within one that is equal
pub same_subset : {K : Type 0} {R : K → K → Ordering} → IsTotalOrder R → (s t : set.Finite R) → s ≡ t → set.subset s t ≡ true
same_subset o s t same = subset_of_members o s t (λ q there. ap (λ u. set.has u q) (sym same) ∙ there)

module _ {K : Type 0} {R : K → K → Ordering} (o : IsTotalOrder R) (ties : fin.IsAntisymmetric R) (f : ℕ → K) where
  pub union_shown : (xs ys ns : List ℕ) → HasSameMembers ns (xs ++ ys)
      → set.adds_each (set.empty {R = R}) (map f ns) ≡ union_of (set.of_list (map f xs)) (set.of_list (map f ys))
  union_shown xs ys ns same =
      shown_alike o ties f ns (xs ++ ys) same ∙ ap set.of_list (map-append f xs ys) ∙ set_append o ties (map f xs) (map f ys)

  pub with_shown : (x : ℕ) (xs ns : List ℕ) → HasSameMembers ns (x ∷ xs)
      → set.adds_each (set.empty {R = R}) (map f ns) ≡ set.adds (set.of_list (map f xs)) (f x)
  with_shown x xs ns same = shown_alike o ties f ns (x ∷ xs) same ∙ set_cons o ties (f x) (map f xs)

  module _ (P : ℕ → Type 0) (one : (m n : ℕ) → P m → P n → f m ≡ f n → m ≡ n) where
    without_list : (x : ℕ) (xs ns : List ℕ) → P x → All P xs
        → ((n : ℕ) → list_any (eq_by_cmp nat_cmp n) ns ≡ (not (eq_by_cmp nat_cmp n x) && list_any (eq_by_cmp nat_cmp n) xs))
        → (q : K) → list_any (λ n. eq_by_cmp R q (f n)) ns ≡ (not (eq_by_cmp R q (f x)) && list_any (λ n. eq_by_cmp R q (f n)) xs)
    without_list x xs ns p h members q =
        same_truth _ _
        (λ any.
        let here = one_passes nat_cmp_total fin.nat_cmp-IsAntisymmetric (λ n. eq_by_cmp R q (f n)) ns any in
        let both : (not (eq_by_cmp nat_cmp here.0 x) && list_any (eq_by_cmp nat_cmp here.0) xs) ≡ true = sym (members here.0) ∙ here.1 in
        let apart : eq_by_cmp nat_cmp here.0 x ≡ false = not_true _ (and_left _ _ both) in
        let there : list_any (eq_by_cmp nat_cmp here.0) xs ≡ true = and_right (not (eq_by_cmp nat_cmp here.0 x)) _ both in
        let other : eq_by_cmp R q (f x) ≡ true → ⊥ =
        λ tied.
        let same : here.0 ≡ x = one here.0 x (among P here.0 xs there h) p (sym (same_here o ties q (f here.0) here.2) ∙ same_here o ties q (f x) tied) in
        let again : eq_by_cmp nat_cmp here.0 x ≡ true = subst (λ (n : ℕ). eq_by_cmp nat_cmp here.0 n ≡ true) same (itself nat_cmp_total fin.nat_cmp-IsAntisymmetric here.0) in
        cc in
        and_both _ _ (not_false _ other) (passes nat_cmp_total fin.nat_cmp-IsAntisymmetric (λ n. eq_by_cmp R q (f n)) here.0 xs there here.2))
        (λ both.
        let other : eq_by_cmp R q (f x) ≡ false = not_true _ (and_left _ _ both) in
        let here = one_passes nat_cmp_total fin.nat_cmp-IsAntisymmetric (λ n. eq_by_cmp R q (f n)) xs (and_right (not (eq_by_cmp R q (f x))) _ both) in
        let apart : eq_by_cmp nat_cmp here.0 x ≡ true → ⊥ =
        λ tied.
        let same : here.0 ≡ x = same_here nat_cmp_total fin.nat_cmp-IsAntisymmetric here.0 x tied in
        let again : eq_by_cmp R q (f x) ≡ true = subst (λ (n : ℕ). eq_by_cmp R q (f n) ≡ true) same here.2 in
        cc in
        passes nat_cmp_total fin.nat_cmp-IsAntisymmetric (λ n. eq_by_cmp R q (f n)) here.0 ns (members here.0 ∙ and_both _ _ (not_false _ apart) here.1) here.2)

    pub without_shown : (x : ℕ) (xs ns : List ℕ) → P x → All P xs
        → ((n : ℕ) → list_any (eq_by_cmp nat_cmp n) ns ≡ (not (eq_by_cmp nat_cmp n x) && list_any (eq_by_cmp nat_cmp n) xs))
        → (q : K) → set.has (set.adds_each (set.empty {R = R}) (map f ns)) q ≡ (not (eq_by_cmp R q (f x)) && set.has (set.adds_each (set.empty {R = R}) (map f xs)) q)
    without_shown x xs ns p h members q =
        has-set_of o f ns q ∙ list_any-map (eq_by_cmp R q) f ns ∙ without_list x xs ns p h members q
        ∙ ap (λ b. not (eq_by_cmp R q (f x)) && b) (sym (list_any-map (eq_by_cmp R q) f xs) ∙ sym (has-set_of o f xs q))

    pub fewer : (x : ℕ) (xs ns : List ℕ) → ((n : ℕ) → list_any (eq_by_cmp nat_cmp n) ns ≡ (not (eq_by_cmp nat_cmp n x) && list_any (eq_by_cmp nat_cmp n) xs))
        → (n : ℕ) → list_any (eq_by_cmp nat_cmp n) ns ≡ true → list_any (eq_by_cmp nat_cmp n) xs ≡ true
    fewer x xs ns members n there = and_right (not (eq_by_cmp nat_cmp n x)) _ (sym (members n) ∙ there)

    -- a set is within another where its list is
    pub subset_shown : (xs ys : List ℕ) → set.IsRising nat_cmp xs → set.IsRising nat_cmp ys → All P xs → All P ys
        → set.subset (set.of_rising {R = nat_cmp} xs) (set.of_rising ys) ≡ set.subset (set.adds_each (set.empty {R = R}) (map f xs)) (set.of_list (map f ys))
    subset_shown xs ys up rises h g =
        same_truth _ _
        (λ sub. subset_of_members o _ _ (λ q there.
        let here = one_passes nat_cmp_total fin.nat_cmp-IsAntisymmetric (λ n. eq_by_cmp R q (f n)) xs (sym (has-set_of o f xs q ∙ list_any-map (eq_by_cmp R q) f xs) ∙ there) in
        let in_ys : list_any (eq_by_cmp nat_cmp here.0) ys ≡ true =
        sym (has-of_rising nat_cmp ys rises here.0) ∙ members_of_subset nat_cmp_total _ _ sub here.0 (has-of_rising nat_cmp xs up here.0 ∙ here.1) in
        has-set_of o f ys q ∙ list_any-map (eq_by_cmp R q) f ys ∙ passes nat_cmp_total fin.nat_cmp-IsAntisymmetric (λ n. eq_by_cmp R q (f n)) here.0 ys in_ys here.2))
        (λ sub. subset_of_members nat_cmp_total _ _ (λ n there.
        let in_xs : list_any (eq_by_cmp nat_cmp n) xs ≡ true = sym (has-of_rising nat_cmp xs up n) ∙ there in
        let p : P n = among P n xs in_xs h in
        let in_set : set.has (set.adds_each (set.empty {R = R}) (map f xs)) (f n) ≡ true =
        has-set_of o f xs (f n) ∙ found_by_number o ties f P one n xs p h ∙ in_xs in
        has-of_rising nat_cmp ys rises n ∙ sym (found_by_number o ties f P one n ys p g) ∙ sym (has-set_of o f ys (f n)) ∙ members_of_subset o _ _ sub (f n) in_set))
