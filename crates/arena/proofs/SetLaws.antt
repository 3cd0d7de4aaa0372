-- Sets of the elements of lists.
use Rattle.std.proofs.Common.{◌≡◌, ℕ, zero, suc, ◌<◌, Bool, true, false, ◌||◌, List, [], ◌∷◌, ◌++◌, map, length, get_or, refl, sym, ap, ◌∙◌, subst, arith}
use Rattle.std.specs.declared.cmp.Ordering.{Ordering}
use Rattle.std.specs.List.{All, list_any}
use Rattle.std.specs.Ordering.{nat_cmp, eq_by_cmp}
use Rattle.std.specs.Cmp.{IsTotalOrder}
use Rattle.std.proofs.lemmas.Cmp.{nat_cmp_total}
use Rattle.std.proofs.lemmas.List.Folds.{list_any-append}
use Rattle.std.proofs.lemmas.List.Elements.{All-head, All-tail}
use Rattle.std.specs.FinMap as fin
use Rattle.finite.specs.Finite as set
use Rattle.finite.proofs.Finite.{has-adds, has-adds_each, has-empty, has-listing, same_members}
use Rattle.free_variables.specs.Union.{union_of}
use Rattle.proof_trees.proofs.Passing.{same_here, itself, passes, one_passes}
use Rattle.arena.specs.Lists.{HasSameMembers}
use Rattle.arena.proofs.Members.{has-union}

or_true : (a b : Bool) → b ≡ true → (a || b) ≡ true
or_true true b e = refl
or_true false b e = e

or_swap : (a b : Bool) → (a || b) ≡ (b || a)
or_swap true true = refl
or_swap true false = refl
or_swap false true = refl
or_swap false false = refl

-- truth values that are true together are equal
pub same_truth : (a b : Bool) → (a ≡ true → b ≡ true) → (b ≡ true → a ≡ true) → a ≡ b
same_truth true b f g = sym (f refl)
same_truth false true f g = g refl
same_truth false false f g = refl

pub list_any-map : {X Y : Type 0} (p : Y → Bool) (f : X → Y) (xs : List X) → list_any p (map f xs) ≡ list_any (λ x. p (f x)) xs
list_any-map p f [] = refl
list_any-map p f (x ∷ xs) = ap (λ b. p (f x) || b) (list_any-map p f xs)

module _ {K : Type 0} {R : K → K → Ordering} (o : IsTotalOrder R) (ties : fin.IsAntisymmetric R) where
  carried : (p : K → Bool) (xs ys : List K) → ((q : K) → list_any (eq_by_cmp R q) xs ≡ list_any (eq_by_cmp R q) ys) → list_any p xs ≡ true → list_any p ys ≡ true
  carried p xs ys same any = let one = one_passes o ties p xs any in passes o ties p one.0 ys (sym (same one.0) ∙ one.1) one.2

  -- lists with the same members pass the same tests
  pub same_any : (p : K → Bool) (xs ys : List K) → ((q : K) → list_any (eq_by_cmp R q) xs ≡ list_any (eq_by_cmp R q) ys) → list_any p xs ≡ list_any p ys
  same_any p xs ys same = same_truth (list_any p xs) (list_any p ys) (carried p xs ys same) (carried p ys xs (λ q. sym (same q)))

  pub has-list : (xs : List K) (q : K) → set.has (set.adds_each (set.empty {R = R}) xs) q ≡ list_any (eq_by_cmp R q) xs
  has-list xs q = has-adds_each o set.empty xs q ∙ ap (λ b. b || list_any (eq_by_cmp R q) xs) (has-empty R q)

  pub any_listing : (p : K → Bool) (xs : List K) → list_any p (set.listing (set.adds_each (set.empty {R = R}) xs)) ≡ list_any p xs
  any_listing p xs = same_any p _ xs (λ q. sym (has-listing (set.adds_each (set.empty {R = R}) xs) q) ∙ has-list xs q)

  -- sets of lists with the same members are equal
  pub same_sets : (xs ys : List K) → ((q : K) → list_any (eq_by_cmp R q) xs ≡ list_any (eq_by_cmp R q) ys) → set.adds_each (set.empty {R = R}) xs ≡ set.of_list ys
  same_sets xs ys same = same_members o ties _ _ (λ q. has-list xs q ∙ same q ∙ sym (has-list ys q))

  pub set_append : (xs ys : List K) → set.adds_each (set.empty {R = R}) (xs ++ ys) ≡ union_of (set.of_list xs) (set.of_list ys)
  set_append xs ys = same_members o ties _ _ (λ q.
      has-list (xs ++ ys) q ∙ list_any-append (eq_by_cmp R q) xs ys ∙ (λ i. sym (has-list xs q) i || sym (has-list ys q) i)
      ∙ sym (has-union o (set.of_list xs) (set.of_list ys) q))

  pub set_cons : (x : K) (xs : List K) → set.adds_each (set.empty {R = R}) (x ∷ xs) ≡ set.adds (set.of_list xs) x
  set_cons x xs = same_members o ties _ _ (λ q.
      has-list (x ∷ xs) q ∙ ap (λ b. eq_by_cmp R q x || b) (sym (has-list xs q)) ∙ sym (has-adds o (set.of_list xs) x q))

-- numbers with the same members show the same set
module _ {K : Type 0} {R : K → K → Ordering} (o : IsTotalOrder R) (ties : fin.IsAntisymmetric R) (f : ℕ → K) where
  pub shown_alike : (xs ys : List ℕ) → HasSameMembers xs ys → set.adds_each (set.empty {R = R}) (map f xs) ≡ set.of_list (map f ys)
  shown_alike xs ys same = same_sets o ties (map f xs) (map f ys) (λ q.
      list_any-map (eq_by_cmp R q) f xs ∙ same_any nat_cmp_total fin.nat_cmp-IsAntisymmetric (λ n. eq_by_cmp R q (f n)) xs ys same ∙ sym (list_any-map (eq_by_cmp R q) f ys))

pub among : (P : ℕ → Type 0) (m : ℕ) (ns : List ℕ) → list_any (eq_by_cmp nat_cmp m) ns ≡ true → All P ns → P m
among P m [] there h = absurd (cc)
among P m (n ∷ ns) there h =
    elim (eq_by_cmp nat_cmp m n) as (λ b. eq_by_cmp nat_cmp m n ≡ b → (b || list_any (eq_by_cmp nat_cmp m) ns) ≡ true → P m) [
      | true ↦ λ e _. subst P (sym (same_here nat_cmp_total fin.nat_cmp-IsAntisymmetric m n e)) (All-head P n ns h)
      | false ↦ λ e later. among P m ns later (All-tail P n ns h)
    ] refl there

any_at : (ns : List ℕ) (k d : ℕ) → k < length ns → list_any (eq_by_cmp nat_cmp (get_or ns k d)) ns ≡ true
any_at [] k d within = absurd (omega arith)
any_at (n ∷ ns) zero d within = ap (λ b. b || list_any (eq_by_cmp nat_cmp n) ns) (itself nat_cmp_total fin.nat_cmp-IsAntisymmetric n)
any_at (n ∷ ns) (suc k) d within = or_true (eq_by_cmp nat_cmp (get_or ns k d) n) _ (any_at ns k d (omega arith))

-- what holds of the members of a list holds of those of a list with the same
pub All-alike : (P : ℕ → Type 0) (xs ys : List ℕ) → HasSameMembers xs ys → All P ys → All P xs
All-alike P xs ys same h k d within = among P (get_or xs k d) ys (sym (same (get_or xs k d)) ∙ any_at xs k d within) h

-- and so of those of a list with no others
pub All-fewer : (P : ℕ → Type 0) (xs ys : List ℕ) → ((n : ℕ) → list_any (eq_by_cmp nat_cmp n) xs ≡ true → list_any (eq_by_cmp nat_cmp n) ys ≡ true) → All P ys → All P xs
All-fewer P xs ys fewer h k d within = among P (get_or xs k d) ys (fewer (get_or xs k d) (any_at xs k d within)) h

pub All-append : (P : ℕ → Type 0) (xs ys : List ℕ) → All P xs → All P ys → All P (xs ++ ys)
All-append P [] ys h g k d within = g k d within
All-append P (x ∷ xs) ys h g zero d within = All-head P x xs h
All-append P (x ∷ xs) ys h g (suc k) d within = All-append P xs ys (All-tail P x xs h) g k d (omega arith)

pub All-cons : (P : ℕ → Type 0) (x : ℕ) (xs : List ℕ) → P x → All P xs → All P (x ∷ xs)
All-cons P x xs p h zero d within = p
All-cons P x xs p h (suc k) d within = h k d (omega arith)
