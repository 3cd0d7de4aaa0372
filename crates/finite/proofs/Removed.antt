-- The list without the key at its place shows the set without the key.
use Rattle.std.proofs.Common.{◌≡◌, ℕ, zero, suc, ◌<◌, Bool, true, false, not, ◌&&◌, ◌||◌, List, [], ◌∷◌, length, Result, Ok, Err, refl, sym, ap, subst, ◌∙◌}
use Rattle.std.specs.declared.cmp.Ordering.{Ordering}
use Rattle.std.specs.declared.cmp.Ordering.TheVariants.{Less, Equal, Greater}
use Rattle.std.specs.Cmp.{IsTotalOrder, alike_right, tied_back, Equal-is}
use Rattle.std.specs.Ordering.{is_eq, is_lt, eq_by_cmp}
use Rattle.std.specs.List.{remove, list_any}
use Rattle.std.specs.List.Sorted.{IsSearchInRange}
use Rattle.std.specs.FinMap.Entries.{below_all}
use Rattle.finite.specs.Finite.{IsRising, marked, has, of_rising}
use Rattle.finite.specs.Place.{place, place_by, later}
use Rattle.finite.proofs.Rising.{first, second, both, IsBelow, head_below, tail_rises, below_none, below_less, below_tied, is_less, turned}
use Rattle.finite.proofs.Finite.{has-of_rising}
use Rattle.finite.proofs.Places.{place_in_range}

module _ {K : Type 0} where
  -- xs without the key at its place
  abbrev pub removed : List K → Result ℕ ℕ → List K
  removed xs (Ok i) = remove xs i
  removed xs (Err i) = xs

  removed-later : (x : K) (xs : List K) (r : Result ℕ ℕ) → removed (x ∷ xs) (later r) ≡ x ∷ removed xs r
  removed-later x xs (Ok i) = refl
  removed-later x xs (Err i) = refl

not_in_both : (a b c d : Bool) → d ≡ (not c && b) → (a ≡ true → c ≡ false) → (a || d) ≡ (not c && (a || b))
not_in_both true b c d e apart = ap not (sym (apart refl)) ∙ sym (and-true (not c))
  where
    and-true : (p : Bool) → (p && true) ≡ p
    and-true true = refl
    and-true false = refl
not_in_both false b c d e apart = e

module _ {K : Type 0} (R : K → K → Ordering) where
  below_remove : (x : K) (xs : List K) (i : ℕ) → IsBelow R x xs → IsBelow R x (remove xs i)
  below_remove x [] zero h = tt
  below_remove x [] (suc i) h = tt
  below_remove x (y ∷ ys) zero h = second (is_lt (R x y)) (below_all R x (marked ys)) h
  below_remove x (y ∷ ys) (suc i) h =
      both (is_lt (R x y)) _ (first (is_lt (R x y)) (below_all R x (marked ys)) h) (below_remove x ys i (second (is_lt (R x y)) (below_all R x (marked ys)) h))

  below_removed : (x : K) (xs : List K) (r : Result ℕ ℕ) → IsBelow R x xs → IsBelow R x (removed xs r)
  below_removed x xs (Ok i) h = below_remove x xs i h
  below_removed x xs (Err i) h = h

  removed_rises : (k : K) (xs : List K) → IsRising R xs → IsRising R (removed xs (place R k xs))
  removed_rises k [] h = h
  removed_rises k (x ∷ xs) h =
      elim (R x k) as (λ r. IsRising R (removed (x ∷ xs) (place_by r (place R k xs)))) [
        | Less ↦ subst (λ ys. IsRising R ys) (sym (removed-later x xs (place R k xs)))
            (both (below_all R x (marked (removed xs (place R k xs)))) _ (below_removed x xs (place R k xs) (head_below R x xs h)) (removed_rises k xs (tail_rises R x xs h)))
        | Equal ↦ tail_rises R x xs h
        | Greater ↦ h
      ]

  module _ (o : IsTotalOrder R) where
    tie_apart : (q x k : K) → R x k ≡ Less → eq_by_cmp R q x ≡ true → eq_by_cmp R q k ≡ false
    tie_apart q x k l e = ap is_eq (o.congr q x k ((Equal-is (R q x)).0 e) ∙ l)

    -- no key of a list ties with q where k, which ties with q, is below each
    none_where_tied : (q k : K) (xs : List K) → IsBelow R k xs → eq_by_cmp R q k ≡ true → list_any (eq_by_cmp R q) xs ≡ false
    none_where_tied q k xs h e = below_none R q xs (below_tied R o k q xs (tied_back o q k ((Equal-is (R q k)).0 e)) h)

    without_none : (b c : Bool) → (c ≡ true → b ≡ false) → b ≡ (not c && b)
    without_none b true f = f refl
    without_none b false f = refl

    removed_members : (k : K) (xs : List K) → IsRising R xs → (q : K) → list_any (eq_by_cmp R q) (removed xs (place R k xs)) ≡ (not (eq_by_cmp R q k) && list_any (eq_by_cmp R q) xs)
    removed_members k [] h q = without_none false (eq_by_cmp R q k) (λ e. refl)
    removed_members k (x ∷ xs) h q =
        elim (R x k) as (λ r. R x k ≡ r → list_any (eq_by_cmp R q) (removed (x ∷ xs) (place_by r (place R k xs))) ≡ (not (eq_by_cmp R q k) && list_any (eq_by_cmp R q) (x ∷ xs))) [
          | Less ↦ λ l. ap (list_any (eq_by_cmp R q)) (removed-later x xs (place R k xs))
              ∙ not_in_both (eq_by_cmp R q x) (list_any (eq_by_cmp R q) xs) (eq_by_cmp R q k) _ (removed_members k xs (tail_rises R x xs h) q) (tie_apart q x k l)
          | Equal ↦ λ e. without_none (list_any (eq_by_cmp R q) xs) (eq_by_cmp R q k)
              (λ t. none_where_tied q x xs (head_below R x xs h) (ap is_eq (alike_right o x k q e) ∙ t))
              ∙ without_tie (eq_by_cmp R q x) (list_any (eq_by_cmp R q) xs) (eq_by_cmp R q k) (ap is_eq (alike_right o x k q e))
          | Greater ↦ λ g. without_none (list_any (eq_by_cmp R q) (x ∷ xs)) (eq_by_cmp R q k)
              (λ t. none_where_tied q k (x ∷ xs) (both (is_lt (R k x)) _ (is_less _ (turned R o x k g)) (below_less R o x k xs (turned R o x k g) (head_below R x xs h))) t)
        ] refl
      where
        without_tie : (a b c : Bool) → a ≡ c → (not c && b) ≡ (not c && (a || b))
        without_tie true b true e = refl
        without_tie true b false e = cc
        without_tie false b c e = refl

    -- ys rises, and has the keys of xs but for k
    pub record IsRemoved (k : K) (xs ys : List K) : Type 0 where
      pub rises : IsRising R ys
      pub members : (q : K) → has (of_rising {R = R} ys) q ≡ (not (eq_by_cmp R q k) && has (of_rising {R = R} xs) q)

    -- the list without the key at its place
    pub removed_at_place : (k : K) (xs : List K) → IsRising R xs → (r : Result ℕ ℕ) → r ≡ place R k xs → IsRemoved k xs (removed xs r)
    removed_at_place k xs h r e =
        let up : IsRising R (removed xs r) = subst (λ p. IsRising R (removed xs p)) (sym e) (removed_rises k xs h) in
        record {
          rises = up;
          members = λ q.
              has-of_rising R (removed xs r) up q ∙ ap (λ p. list_any (eq_by_cmp R q) (removed xs p)) e ∙ removed_members k xs h q
              ∙ ap (λ b. not (eq_by_cmp R q k) && b) (sym (has-of_rising R xs h q));
        }

  -- a place to remove at
  pub tie_in_range : (k : K) (xs : List K) (i : ℕ) → Ok i ≡ place R k xs → i < length xs
  tie_in_range k xs i e = let there : IsSearchInRange (Ok i) (length xs) = subst (λ r. IsSearchInRange r (length xs)) (sym e) (place_in_range R k xs) in there
