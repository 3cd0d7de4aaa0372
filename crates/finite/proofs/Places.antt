-- What the place of a key in a rising list means: for a search, and for the set with that key added.
use Rattle.std.proofs.Common.{◌≡◌, ℕ, zero, suc, ◌<◌, ◌≤◌, ◌⊎◌, inl, inr, T, List, [], ◌∷◌, length, get_or, Result, Ok, Err, is_ok, refl, sym, ap, subst, ◌∙◌, arith}
use Rattle.std.specs.declared.cmp.Ordering.{Ordering}
use Rattle.std.specs.declared.cmp.Ordering.TheVariants.{Less, Equal, Greater}
use Rattle.std.specs.Cmp.{IsTotalOrder, alike_right, tied_back}
use Rattle.std.specs.Ordering.{ordering_index, eq_by_cmp}
use Rattle.std.specs.List.{insert, list_any}
use Rattle.std.specs.List.Sorted.{IsSearchInRange, IsBinarySearchResult, IsNonDecreasingBy}
use Rattle.std.proofs.Math.Nat.{eq-or-lt_of_le}
use Rattle.std.specs.FinMap as fin
use Rattle.finite.specs.Finite.{Finite, IsRising, marked, has, adds, of_rising}
use Rattle.finite.specs.Place.{place, place_by, later}
use Rattle.finite.proofs.Rising.{rising_at, head_below, tail_rises, below_none, below_less, turned, turned_less}
use Rattle.finite.proofs.Finite.{has-of_rising}

lt_or_eq : (i j : ℕ) → i ≤ j → (i < j) ⊎ (i ≡ j)
lt_or_eq i j l = elim (eq-or-lt_of_le l) [ inl same ↦ inr same | inr below ↦ inl below ]

-- ranks rise where the first answer is `Less` as soon as the second isn't `Greater`
ranks_rise : (r s : Ordering) → (s ≡ Less → r ≡ Less) → (s ≡ Equal → r ≡ Less) → ordering_index r ≤ ordering_index s
ranks_rise r Less f g = rw (f refl) (omega arith)
ranks_rise r Equal f g = rw (g refl) (omega arith)
ranks_rise Less Greater f g = omega arith
ranks_rise Equal Greater f g = omega arith
ranks_rise Greater Greater f g = omega arith

later_in_range : (r : Result ℕ ℕ) (n : ℕ) → IsSearchInRange r n → IsSearchInRange (later r) (suc n)
later_in_range (Ok i) n l = omega arith
later_in_range (Err i) n l = omega arith

is_ok-later : (r : Result ℕ ℕ) → is_ok (later r) ≡ is_ok r
is_ok-later (Ok i) = refl
is_ok-later (Err i) = refl

module _ {K : Type 0} where
  -- xs with k at the place where it isn't yet
  abbrev pub placed : K → List K → Result ℕ ℕ → List K
  placed k xs (Ok i) = xs
  placed k xs (Err i) = insert xs i k

  placed-later : (k x : K) (xs : List K) (r : Result ℕ ℕ) → placed k (x ∷ xs) (later r) ≡ x ∷ placed k xs r
  placed-later k x xs (Ok i) = refl
  placed-later k x xs (Err i) = refl

module _ {K : Type 0} (R : K → K → Ordering) where
  -- a tie is found at its place
  place_of_tie : (o : IsTotalOrder R) (k : K) (xs : List K) → IsRising R xs → (i : ℕ) → i < length xs → ((d : K) → R (get_or xs i d) k ≡ Equal) → Ok i ≡ place R k xs
  place_of_tie o k [] h i l e = absurd (omega arith)
  place_of_tie o k (x ∷ xs) h zero l e = rw (e k) refl
  place_of_tie o k (x ∷ xs) h (suc i) l e =
      let below : R x k ≡ Less = sym (alike_right o _ _ x (e k)) ∙ rising_at R (x ∷ xs) h 0 (suc i) k (omega arith) l in
      rw below (ap later (place_of_tie o k xs (tail_rises R x xs h) i (omega arith) e))

  -- a gap is at its place
  place_of_gap : (k : K) (xs : List K) (i : ℕ) → i ≤ length xs → ((j : ℕ) (d : K) → j < i → R (get_or xs j d) k ≡ Less) → ((j : ℕ) (d : K) → i ≤ j → j < length xs → R (get_or xs j d) k ≡ Greater) → Err i ≡ place R k xs
  place_of_gap k [] i l below above = ap Err (omega arith)
  place_of_gap k (x ∷ xs) zero l below above = rw (above 0 k (omega arith) (omega arith)) refl
  place_of_gap k (x ∷ xs) (suc i) l below above =
      rw (below 0 k (omega arith))
      (ap later (place_of_gap k xs i (omega arith) (λ j d m. below (suc j) d (omega arith)) (λ j d m n. above (suc j) d (omega arith) (omega arith))))

  -- comparisons with a key rise along a rising list, as a binary search asks
  comparisons_rise : IsTotalOrder R → (k : K) (xs : List K) → IsRising R xs → IsNonDecreasingBy (λ y. ordering_index (R y k)) xs
  comparisons_rise o k xs h i j d l m =
      elim (lt_or_eq i j l) [
        | inl below ↦ ranks_rise (R (get_or xs i d) k) (R (get_or xs j d) k)
            (λ e. o.trans _ _ k (rising_at R xs h i j d below m) e)
            (λ e. sym (alike_right o _ _ (get_or xs i d) e) ∙ rising_at R xs h i j d below m)
        | inr same ↦ rw same (omega arith)
      ]

  -- a binary search of a rising list answers the place
  pub place_of_search : IsTotalOrder R → (k : K) (xs : List K) → IsRising R xs → (r : Result ℕ ℕ) → IsSearchInRange r (length xs) → IsBinarySearchResult (λ y. R y k) xs r → r ≡ place R k xs
  place_of_search o k xs h (Ok i) bound tie = place_of_tie o k xs h i bound tie
  place_of_search o k xs h (Err i) bound parted =
      let parts = parted (comparisons_rise o k xs h) in
      place_of_gap k xs i bound (λ j d l. parts.0 j d (omega arith) l) parts.1

  -- the place lies in the list, or at its end where no element ties
  pub place_in_range : (k : K) (xs : List K) → IsSearchInRange (place R k xs) (length xs)
  place_in_range k [] = omega arith
  place_in_range k (x ∷ xs) =
      elim (R x k) as (λ r. IsSearchInRange (place_by r (place R k xs)) (suc (length xs))) [
        | Less ↦ later_in_range (place R k xs) (length xs) (place_in_range k xs)
        | Equal ↦ omega arith
        | Greater ↦ omega arith
      ]

  among_place : IsTotalOrder R → (k : K) (xs : List K) → IsRising R xs → is_ok (place R k xs) ≡ list_any (eq_by_cmp R k) xs
  among_place o k [] h = refl
  among_place o k (x ∷ xs) h =
      elim (R x k) as (λ r. R x k ≡ r → is_ok (place_by r (place R k xs)) ≡ list_any (eq_by_cmp R k) (x ∷ xs)) [
        | Less ↦ λ e. rw (turned_less R o x k e) (is_ok-later (place R k xs) ∙ among_place o k xs (tail_rises R x xs h))
        | Equal ↦ λ e. rw (tied_back o x k e) refl
        | Greater ↦ λ e. rw (turned R o x k e) (sym (below_none R k xs (below_less R o x k xs (turned R o x k e) (head_below R x xs h))))
      ] refl

  put_placed : IsTotalOrder R → (k : K) (xs : List K) → fin.put R k tt (marked xs) ≡ marked (placed k xs (place R k xs))
  put_placed o k [] = refl
  put_placed o k (x ∷ xs) =
      elim (R x k) as (λ r. R x k ≡ r → fin.put R k tt (marked (x ∷ xs)) ≡ marked (placed k (x ∷ xs) (place_by r (place R k xs)))) [
        | Less ↦ λ e. rw (turned_less R o x k e) (ap (λ es. (x, tt) ∷ es) (put_placed o k xs) ∙ ap marked (sym (placed-later k x xs (place R k xs))))
        | Equal ↦ λ e. rw (tied_back o x k e) refl
        | Greater ↦ λ e. rw (turned R o x k e) refl
      ] refl

  -- ys rises, and shows the set of xs with k
  pub record IsAdded (k : K) (xs ys : List K) : Type 0 where
    pub rises : IsRising R ys
    pub set : of_rising {R = R} ys ≡ adds (of_rising xs) k

  -- the list with k at its place
  pub added_at_place : IsTotalOrder R → (k : K) (xs : List K) → IsRising R xs → (r : Result ℕ ℕ) → r ≡ place R k xs → IsAdded k xs (placed k xs r)
  added_at_place o k xs h r e =
      let s : Finite R = of_rising xs in
      let shown : fin.entries (adds s k) ≡ marked (placed k xs r) =
      fin.entries-insert o s k tt ∙ ap (fin.put R k tt) (fin.entries-from_sorted R (marked xs) h) ∙ put_placed o k xs ∙ ap (λ q. marked (placed k xs q)) (sym e) in
      let up : IsRising R (placed k xs r) = subst (λ es. T (fin.is_sorted R es)) shown (fin.entries_sorted (adds s k)) in
      record { rises = up; set = fin.same_entries_map _ _ (fin.entries-from_sorted R _ up ∙ sym shown) }

  -- a place to insert at
  pub gap_in_range : (k : K) (xs : List K) (i : ℕ) → Err i ≡ place R k xs → i ≤ length xs
  gap_in_range k xs i e = let there : IsSearchInRange (Err i) (length xs) = subst (λ r. IsSearchInRange r (length xs)) (sym e) (place_in_range k xs) in there

  -- a key that has a place is a member
  pub has-place : IsTotalOrder R → (k : K) (xs : List K) → IsRising R xs → is_ok (place R k xs) ≡ has (of_rising {R = R} xs) k
  has-place o k xs h = among_place o k xs h ∙ sym (has-of_rising R xs h k)
