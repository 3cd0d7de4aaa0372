-- Tests of the members of sets, and how many members there are.
use Rattle.std.proofs.Common.{◌≡◌, ◌+◌, Bool, true, false, ◌||◌, cond, List, [], ◌∷◌, length, sym, ap, ◌∙◌, arith}
use Rattle.std.specs.List.{All, AllByRecursion, IsDistinct, list_any}
use Rattle.std.specs.declared.cmp.Ordering.{Ordering}
use Rattle.std.specs.declared.cmp.Ordering.TheVariants.{Equal}
use Rattle.std.specs.Ordering.{eq_by_cmp}
use Rattle.std.specs.Cmp.{IsTotalOrder, Equal-is, tied_itself}
use Rattle.std.specs.FinMap as fin
use Rattle.std.proofs.lemmas.List.{length-map}
use Rattle.std.proofs.lemmas.List.Elements.{All-nil, All-cons, All-weaker}
use Rattle.finite.specs.Finite as set
use Rattle.finite.proofs.Finite.{has-listing, has-adds, has-adds_each, has-empty, of_rising-empty, listing-of_rising}
use Rattle.proof_trees.proofs.Booleans.{or_first, or_second}
use Rattle.search_laws.proofs.Tests.{clash, fails, neither, same_truth}
use Rattle.herbrand_laws.proofs.Lists.{any_more, from_any}

module _ {K : Type 0} {R : K → K → Ordering} (o : IsTotalOrder R) (ties : (x y : K) → R x y ≡ Equal → x ≡ y) where
  tied : (x : K) → eq_by_cmp R x x ≡ true
  tied x = (Equal-is (R x x)).1 (tied_itself o x)

  pub equal_of : (x y : K) → eq_by_cmp R x y ≡ true → x ≡ y
  equal_of x y e = ties x y ((Equal-is (R x y)).0 e)

  pub itself_among : (xs : List K) → All (λ x. list_any (eq_by_cmp R x) xs ≡ true) xs
  itself_among [] = All-nil _
  itself_among (x ∷ xs) =
      All-cons (λ y. list_any (eq_by_cmp R y) (x ∷ xs) ≡ true) x xs
      (or_first (eq_by_cmp R x x) (list_any (eq_by_cmp R x) xs) (tied x))
      (All-weaker (λ y. list_any (eq_by_cmp R y) xs ≡ true) (λ y. list_any (eq_by_cmp R y) (x ∷ xs) ≡ true) (λ y. or_second (eq_by_cmp R y x) (list_any (eq_by_cmp R y) xs)) xs (itself_among xs))

  any_among : (p : K → Bool) (xs ys : List K) → ((q : K) → list_any (eq_by_cmp R q) xs ≡ true → list_any (eq_by_cmp R q) ys ≡ true) → list_any p xs ≡ true → list_any p ys ≡ true
  any_among p xs ys there =
      from_any (λ x. list_any (eq_by_cmp R x) xs ≡ true) p xs (itself_among xs)
      (λ x among e. any_more (eq_by_cmp R x) p ys (λ y tie. ap p (sym (equal_of x y tie)) ∙ e) (there x among))

  -- some element passes a test of one list just where one does of another with the same elements
  pub any_members : (p : K → Bool) (xs ys : List K) → ((q : K) → list_any (eq_by_cmp R q) xs ≡ list_any (eq_by_cmp R q) ys) → list_any p xs ≡ list_any p ys
  any_members p xs ys same =
      same_truth (list_any p xs) (list_any p ys)
      (any_among p xs ys (λ q e. sym (same q) ∙ e))
      (any_among p ys xs (λ q e. same q ∙ e))

  -- the members of the set of a list are its elements
  pub any_set : (p : K → Bool) (ks : List K) → list_any p (set.listing (set.adds_each (set.empty {R = R}) ks)) ≡ list_any p ks
  any_set p ks =
      any_members p (set.listing (set.adds_each (set.empty {R = R}) ks)) ks
      (λ q. sym (has-listing (set.adds_each (set.empty {R = R}) ks) q)
      ∙ (has-adds_each o set.empty ks q ∙ ap (λ b. b || list_any (eq_by_cmp R q) ks) (has-empty R q)))

  -- a set has as many members as are added that it doesn't have

  added_out : (s : set.Finite R) (k : K) (ks : List K) → AllByRecursion (λ q. set.has s q ≡ false) ks → AllByRecursion (λ q. eq_by_cmp R k q ≡ false) ks → AllByRecursion (λ q. set.has (set.adds s k) q ≡ false) ks
  added_out s k [] h g = tt
  added_out s k (q ∷ qs) h g =
      let other : eq_by_cmp R q k ≡ false = fails (eq_by_cmp R q k) (λ e. clash (eq_by_cmp R k q) (ap (λ x. eq_by_cmp R k x) (equal_of q k e) ∙ tied k) g.0) in
      (has-adds o s k q ∙ neither _ _ other h.0, added_out s k qs h.1 g.1)

  counted : (s : set.Finite R) (ks : List K) → AllByRecursion (λ q. set.has s q ≡ false) ks → IsDistinct (eq_by_cmp R) ks → fin.len (set.adds_each s ks) ≡ fin.len s + length ks
  unfolding IsDistinct
  counted s [] h g = omega arith
  counted s (k ∷ ks) h g =
      let one : fin.len (set.adds s k) ≡ fin.len s + 1 = fin.len-insert o s k tt ∙ ap (λ b. cond b (fin.len s) (fin.len s + 1)) h.0 in
      let later = counted (set.adds s k) ks (added_out s k ks h.1 g.0) g.1 in
      omega arith

  none_has : (ks : List K) → AllByRecursion (λ q. set.has (set.empty {R = R}) q ≡ false) ks
  none_has [] = tt
  none_has (k ∷ ks) = (has-empty R k, none_has ks)

  sized : (s : set.Finite R) → length (set.listing s) ≡ fin.len s
  sized s = length-map (fin.entries s) (λ e. e.0) ∙ sym (fin.len-entries s)

  -- the set of different elements has as many members
  pub all_different : (ks : List K) → IsDistinct (eq_by_cmp R) ks → length (set.listing (set.adds_each (set.empty {R = R}) ks)) ≡ length ks
  all_different ks d =
      let nothing : length (set.listing (set.empty {R = R})) ≡ 0 = ap length (ap set.listing (sym (of_rising-empty R)) ∙ listing-of_rising R [] tt) in
      let before = sized set.empty in
      let after = sized (set.adds_each (set.empty {R = R}) ks) in
      let between = counted set.empty ks (none_has ks) d in
      omega arith
