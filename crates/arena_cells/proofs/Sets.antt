-- Sets that are shown by rising numbers of distinct things.
use Rattle.std.proofs.Common.{◌≡◌, ℕ, Bool, true, false, ◌||◌, List, [], ◌∷◌, map, is_ok, refl, sym, ap, ◌∙◌, subst}
use Rattle.std.specs.declared.cmp.Ordering.{Ordering}
use Rattle.std.specs.List.{All, list_any}
use Rattle.std.specs.Ordering.{nat_cmp, eq_by_cmp, is_eq}
use Rattle.std.specs.Cmp.{IsTotalOrder, tied_itself, Equal-is}
use Rattle.std.proofs.lemmas.Cmp.{nat_cmp_total}
use Rattle.std.proofs.lemmas.List.Elements.{All-head, All-tail}
use Rattle.std.specs.FinMap as fin
use Rattle.finite.specs.Finite as set
use Rattle.finite.specs.Place.{place}
use Rattle.finite.proofs.Places.{has-place}
use Rattle.finite.proofs.Finite.{has-adds_each, has-empty, has-of_rising, same_members, listing-of_rising}

or_true : (a b : Bool) → b ≡ true → (a || b) ≡ true
or_true true b e = refl
or_true false b e = e

-- the set of the things at numbers has a thing where the list has it
module _ {K : Type 0} {R : K → K → Ordering} (o : IsTotalOrder R) where
  pub has-set_of : (f : ℕ → K) (ns : List ℕ) (q : K) → set.has (set.adds_each (set.empty {R = R}) (map f ns)) q ≡ list_any (eq_by_cmp R q) (map f ns)
  has-set_of f ns q = has-adds_each o set.empty (map f ns) q ∙ ap (λ b. b || list_any (eq_by_cmp R q) (map f ns)) (has-empty R q)

-- a number in a list is found by the thing at it, where different numbers have different things
module _ {K : Type 0} {R : K → K → Ordering} (o : IsTotalOrder R) (ties : fin.IsAntisymmetric R) (f : ℕ → K) (P : ℕ → Type 0) (one : (m n : ℕ) → P m → P n → f m ≡ f n → m ≡ n) where
  pub same_test : (m n : ℕ) → P m → P n → eq_by_cmp R (f m) (f n) ≡ eq_by_cmp nat_cmp m n
  same_test m n p q =
      elim (eq_by_cmp nat_cmp m n) as (λ b. eq_by_cmp nat_cmp m n ≡ b → eq_by_cmp R (f m) (f n) ≡ b) [
        | true ↦ λ e.
            let same : m ≡ n = fin.nat_cmp-IsAntisymmetric m n ((Equal-is (nat_cmp m n)).0 e) in
            subst (λ (k : ℕ). eq_by_cmp R (f m) (f k) ≡ true) same (ap is_eq (tied_itself o (f m)))
        | false ↦ λ e.
            elim (eq_by_cmp R (f m) (f n)) as (λ b. eq_by_cmp R (f m) (f n) ≡ b → b ≡ false) [
              | true ↦ λ tied.
                  let same : m ≡ n = one m n p q (ties (f m) (f n) ((Equal-is (R (f m) (f n))).0 tied)) in
                  let here : eq_by_cmp nat_cmp m n ≡ true = subst (λ (k : ℕ). eq_by_cmp nat_cmp m k ≡ true) same (ap is_eq (tied_itself nat_cmp_total m)) in
                  absurd (cc)
              | false ↦ λ tied. refl
            ] refl
      ] refl

  pub found_by_number : (m : ℕ) (ns : List ℕ) → P m → All P ns → list_any (eq_by_cmp R (f m)) (map f ns) ≡ list_any (eq_by_cmp nat_cmp m) ns
  found_by_number m [] p h = refl
  found_by_number m (n ∷ ns) p h =
      λ i. same_test m n p (All-head P n ns h) i || found_by_number m ns p (All-tail P n ns h) i

  among : (m : ℕ) (ns : List ℕ) → list_any (eq_by_cmp nat_cmp m) ns ≡ true → All P ns → P m
  among m [] there h = cc
  among m (n ∷ ns) there h =
      elim (eq_by_cmp nat_cmp m n) as (λ b. eq_by_cmp nat_cmp m n ≡ b → (b || list_any (eq_by_cmp nat_cmp m) ns) ≡ true → P m) [
        | true ↦ λ e _. subst P (sym (fin.nat_cmp-IsAntisymmetric m n ((Equal-is (nat_cmp m n)).0 e))) (All-head P n ns h)
        | false ↦ λ e later. among m ns later (All-tail P n ns h)
      ] refl there

  -- a number of one list is one of another list with the same things
  carried : (ns ms : List ℕ) → All P ns → All P ms → ((q : K) → list_any (eq_by_cmp R q) (map f ns) ≡ list_any (eq_by_cmp R q) (map f ms))
      → (m : ℕ) → list_any (eq_by_cmp nat_cmp m) ns ≡ true → list_any (eq_by_cmp nat_cmp m) ms ≡ true
  carried ns ms h g same m there =
      let p : P m = among m ns there h in
      sym (found_by_number m ms p g) ∙ sym (same (f m)) ∙ found_by_number m ns p h ∙ there

  alike : (ns ms : List ℕ) → All P ns → All P ms → ((q : K) → list_any (eq_by_cmp R q) (map f ns) ≡ list_any (eq_by_cmp R q) (map f ms))
      → (m : ℕ) → list_any (eq_by_cmp nat_cmp m) ns ≡ list_any (eq_by_cmp nat_cmp m) ms
  alike ns ms h g same m =
      elim (list_any (eq_by_cmp nat_cmp m) ns) as (λ b. list_any (eq_by_cmp nat_cmp m) ns ≡ b → b ≡ list_any (eq_by_cmp nat_cmp m) ms) [
        | true ↦ λ e. sym (carried ns ms h g same m e)
        | false ↦ λ e. elim (list_any (eq_by_cmp nat_cmp m) ms) as (λ b. list_any (eq_by_cmp nat_cmp m) ms ≡ b → false ≡ b) [
          | true ↦ λ other. let back : list_any (eq_by_cmp nat_cmp m) ns ≡ true = carried ms ns g h (λ q. sym (same q)) m other in cc
          | false ↦ λ there. refl
        ] refl
      ] refl

  -- rising lists of numbers that show one set are one list
  pub one_list : (ns ms : List ℕ) → set.IsRising nat_cmp ns → set.IsRising nat_cmp ms → All P ns → All P ms
      → set.adds_each (set.empty {R = R}) (map f ns) ≡ set.of_list (map f ms) → ns ≡ ms
  one_list ns ms up rises h g same =
      let members : (q : K) → list_any (eq_by_cmp R q) (map f ns) ≡ list_any (eq_by_cmp R q) (map f ms) =
      λ q. sym (has-set_of o f ns q) ∙ ap (λ s. set.has s q) same ∙ has-set_of o f ms q in
      let sets : set.of_rising {R = nat_cmp} ns ≡ set.of_rising ms =
      same_members nat_cmp_total fin.nat_cmp-IsAntisymmetric _ _ (λ m. has-of_rising nat_cmp ns up m ∙ alike ns ms h g members m ∙ sym (has-of_rising nat_cmp ms rises m)) in
      sym (listing-of_rising nat_cmp ns up) ∙ ap set.listing sets ∙ listing-of_rising nat_cmp ms rises

  -- a number has a place in a rising list where the thing at it is in the set
  pub has_number : (m : ℕ) (ns : List ℕ) → set.IsRising nat_cmp ns → All P ns → P m → is_ok (place nat_cmp m ns) ≡ set.has (set.adds_each (set.empty {R = R}) (map f ns)) (f m)
  has_number m ns up h p =
      has-place nat_cmp nat_cmp_total m ns up ∙ has-of_rising nat_cmp ns up m ∙ sym (found_by_number m ns p h) ∙ sym (has-set_of o f ns (f m))
