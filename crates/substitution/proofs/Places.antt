-- The place of a key among bindings whose keys rise: by binary search, for a look-up, and for a new binding.
use Rattle.std.proofs.Common.{◌≡◌, ℕ, zero, suc, ◌+◌, ◌<◌, ◌≤◌, inl, inr, Bool, true, false, ◌&&◌, T, List, [], ◌∷◌, map, length, get_or, set, Option, Some, None, is_some, Result, Ok, Err, refl, sym, ap, subst, ◌∙◌, arith}
use Rattle.std.proofs.lemmas.Bool.{cases_lt}
use Rattle.std.specs.declared.cmp.Ordering.{Ordering}
use Rattle.std.specs.declared.cmp.Ordering.TheVariants.{Less, Equal, Greater}
use Rattle.std.specs.Cmp.{IsTotalOrder, tied_back}
use Rattle.std.specs.Ordering.{is_lt}
use Rattle.std.specs.List.{insert}
use Rattle.std.specs.FinMap as fin
use Rattle.std.specs.FinMap.Entries.{below_all, find, put, is_sorted, is_some-find}
use Rattle.finite.specs.Finite.{IsRising, marked}
use Rattle.finite.specs.Place.{place, place_by, later}
use Rattle.finite.proofs.Rising.{rising_at, turned, turned_less, below_none, below_less, head_below}
use Rattle.finite.proofs.Places.{place_of_search}

tail_sorted : (a b : Bool) → T (a && b) → T b
tail_sorted true b h = h
tail_sorted false b h = absurd h

none_of : {X : Type 0} (o : Option X) → is_some o ≡ false → o ≡ None
none_of None e = refl
none_of (Some x) e = cc

module _ {K X : Type 0} where
  abbrev pub keys : List (K × X) → List K
  keys es = map (λ e. e.0) es

  pub key_at : (es : List (K × X)) (i : ℕ) (e : K × X) (d : K) → i < length es → e ≡ get_or es i e → get_or (keys es) i d ≡ e.0
  key_at [] i e d l is = absurd (omega arith)
  key_at (x ∷ es) zero e d l is = ap (λ p. p.0) (sym is)
  key_at (x ∷ es) (suc i) e d l is = key_at es i e d (omega arith) is

  pub length-keys : (es : List (K × X)) → length (keys es) ≡ length es
  length-keys [] = refl
  length-keys (e ∷ es) = ap suc (length-keys es)

  -- what a place answers a look-up
  abbrev pub found : List (K × X) → K × X → Result ℕ ℕ → Option X
  found es d (Ok i) = Some (get_or es i d).1
  found es d (Err i) = None

  -- the bindings with a new one at a place
  abbrev pub placed : List (K × X) → K × X → Result ℕ ℕ → List (K × X)
  placed es b (Ok i) = set es i b
  placed es b (Err i) = insert es i b

  found-later : (e : K × X) (es : List (K × X)) (d : K × X) (r : Result ℕ ℕ) → found (e ∷ es) d (later r) ≡ found es d r
  found-later e es d (Ok i) = refl
  found-later e es d (Err i) = refl

  placed-later : (e : K × X) (es : List (K × X)) (b : K × X) (r : Result ℕ ℕ) → placed (e ∷ es) b (later r) ≡ e ∷ placed es b r
  placed-later e es b (Ok i) = refl
  placed-later e es b (Err i) = refl

module _ {K X : Type 0} (R : K → K → Ordering) where
  below_keys : (x : K) (es : List (K × X)) → below_all R x (marked (keys es)) ≡ below_all R x es
  below_keys x [] = refl
  below_keys x (e ∷ es) = ap (λ b. is_lt (R x e.0) && b) (below_keys x es)

  sorted_keys : (es : List (K × X)) → is_sorted R (marked (keys es)) ≡ is_sorted R es
  sorted_keys [] = refl
  sorted_keys (e ∷ es) = λ i. below_keys e.0 es i && sorted_keys es i

  pub keys_rise : (es : List (K × X)) → T (fin.is_sorted R es) → IsRising R (keys es)
  keys_rise es h = subst (λ b. T b) (sym (sorted_keys es)) h

  module _ (o : IsTotalOrder R) where
    -- where an element is below k, all up to it are
    pub low_more : (k : K) (es : List (K × X)) → T (fin.is_sorted R es) → (m : ℕ) (e : K × X) → m < length es → e ≡ get_or es m e → R e.0 k ≡ Less
        → (j : ℕ) (d : K) → j < m + 1 → R (get_or (keys es) j d) k ≡ Less
    low_more k es h m e l is less j d below =
        let at : get_or (keys es) m d ≡ e.0 = key_at es m e d l is in
        elim (cases_lt j m) [
          | inl before ↦ o.trans _ _ k (ap (R (get_or (keys es) j d)) (sym at) ∙ rising_at R (keys es) (keys_rise es h) j m d before (omega (arith, length-keys es))) less
          | inr after ↦ let same : j ≡ m = omega arith in ap (λ i. R (get_or (keys es) i d) k) same ∙ (ap (λ x. R x k) at ∙ less)
        ]

    -- where an element is above k, all from it on are
    pub high_more : (k : K) (es : List (K × X)) → T (fin.is_sorted R es) → (m : ℕ) (e : K × X) → m < length es → e ≡ get_or es m e → R e.0 k ≡ Greater
        → (j : ℕ) (d : K) → m ≤ j → j < length es → R (get_or (keys es) j d) k ≡ Greater
    high_more k es h m e l is more j d from to =
        let at : get_or (keys es) m d ≡ e.0 = key_at es m e d l is in
        elim (cases_lt m j) [
          | inl before ↦ turned_less R o k _ (o.trans k e.0 _ (turned R o e.0 k more) (ap (λ x. R x (get_or (keys es) j d)) (sym at) ∙ rising_at R (keys es) (keys_rise es h) m j d before (omega (arith, length-keys es))))
          | inr after ↦ let same : j ≡ m = omega arith in ap (λ i. R (get_or (keys es) i d) k) same ∙ (ap (λ x. R x k) at ∙ more)
        ]

    pub place_of_tie : (k : K) (es : List (K × X)) → T (fin.is_sorted R es) → (i : ℕ) (e : K × X) → i < length es → e ≡ get_or es i e → R e.0 k ≡ Equal → Ok i ≡ place R k (keys es)
    place_of_tie k es h i e l is tie =
        place_of_search R o k (keys es) (keys_rise es h) (Ok i) (omega (arith, length-keys es)) (λ d. ap (λ x. R x k) (key_at es i e d l is) ∙ tie)

    pub place_of_gap : (k : K) (es : List (K × X)) → T (fin.is_sorted R es) → (i : ℕ) → i ≤ length es → ((j : ℕ) (d : K) → j < i → R (get_or (keys es) j d) k ≡ Less)
        → ((j : ℕ) (d : K) → i ≤ j → j < length es → R (get_or (keys es) j d) k ≡ Greater) → Err i ≡ place R k (keys es)
    place_of_gap k es h i l below above =
        place_of_search R o k (keys es) (keys_rise es h) (Err i) (omega (arith, length-keys es))
        (λ rise. (λ j d q m. below j d m, λ j d q m. above j d q (omega (arith, length-keys es))))

    -- a look-up answers by the place
    pub find_placed : (k : K) (es : List (K × X)) (d : K × X) → T (fin.is_sorted R es) → find R k es ≡ found es d (place R k (keys es))
    find_placed k [] d h = refl
    find_placed k (e ∷ es) d h =
        elim (R e.0 k) as (λ r. R e.0 k ≡ r → find R k (e ∷ es) ≡ found (e ∷ es) d (place_by r (place R k (keys es)))) [
          | Less ↦ λ q. rw (turned_less R o e.0 k q) (find_placed k es d (tail_sorted (below_all R e.0 es) _ h) ∙ sym (found-later e es d (place R k (keys es))))
          | Equal ↦ λ q. rw (tied_back o e.0 k q) refl
          | Greater ↦ λ q. rw (turned R o e.0 k q) (none_of _ (is_some-find R k es ∙ below_none R k (keys es) (below_less R o e.0 k (keys es) (turned R o e.0 k q) (head_below R e.0 (keys es) (keys_rise (e ∷ es) h)))))
        ] refl

    pub get_found : (k : K) (es : List (K × X)) (d : K × X) → T (fin.is_sorted R es) → (r : Result ℕ ℕ) → r ≡ place R k (keys es) → fin.get (fin.from_sorted {R = R} es) k ≡ found es d r
    get_found k es d h r is = fin.get-from_sorted R es k h ∙ (find_placed k es d h ∙ ap (found es d) (sym is))

    -- a new binding goes to the place
    pub put_placed : fin.IsAntisymmetric R → (k : K) (v : X) (es : List (K × X)) → put R k v es ≡ placed es (k, v) (place R k (keys es))
    put_placed ties k v [] = refl
    put_placed ties k v (e ∷ es) =
        elim (R e.0 k) as (λ r. R e.0 k ≡ r → put R k v (e ∷ es) ≡ placed (e ∷ es) (k, v) (place_by r (place R k (keys es)))) [
          | Less ↦ λ q. rw (turned_less R o e.0 k q) (ap (λ fs. e ∷ fs) (put_placed ties k v es) ∙ sym (placed-later e es (k, v) (place R k (keys es))))
          | Equal ↦ λ q. rw (tied_back o e.0 k q) (ap (λ x. (x, v) ∷ es) (ties e.0 k q))
          | Greater ↦ λ q. rw (turned R o e.0 k q) refl
        ] refl

    -- the bindings with a new one at its place are those of the map with it
    pub entries_placed : fin.IsAntisymmetric R → (k : K) (v : X) (es : List (K × X)) → T (fin.is_sorted R es) → (r : Result ℕ ℕ) → r ≡ place R k (keys es)
        → fin.entries (fin.insert (fin.from_sorted {R = R} es) k v) ≡ placed es (k, v) r
    entries_placed ties k v es h r is =
        fin.entries-insert o _ k v ∙ (ap (put R k v) (fin.entries-from_sorted R es h) ∙ (put_placed ties k v es ∙ ap (placed es (k, v)) (sym is)))

    pub placed_sorted : fin.IsAntisymmetric R → (k : K) (v : X) (es : List (K × X)) → T (fin.is_sorted R es) → (r : Result ℕ ℕ) → r ≡ place R k (keys es)
        → T (fin.is_sorted R (placed es (k, v) r))
    placed_sorted ties k v es h r is = subst (λ fs. T (fin.is_sorted R fs)) (entries_placed ties k v es h r is) (fin.entries_sorted _)

    pub placed_map : fin.IsAntisymmetric R → (k : K) (v : X) (es : List (K × X)) → T (fin.is_sorted R es) → (r : Result ℕ ℕ) → r ≡ place R k (keys es)
        → fin.from_sorted {R = R} (placed es (k, v) r) ≡ fin.insert (fin.from_sorted es) k v
    placed_map ties k v es h r is =
        fin.same_entries_map _ _ (fin.entries-from_sorted R _ (placed_sorted ties k v es h r is) ∙ sym (entries_placed ties k v es h r is))

-- no bindings show the map with none
pub from_sorted-empty : {K X : Type 0} (R : K → K → Ordering) → fin.from_sorted {X = X} {R = R} [] ≡ fin.empty
from_sorted-empty {X = X} R = let none : List (_ × X) = [] in fin.empty_of_len _ (fin.len-entries _ ∙ ap length (fin.entries-from_sorted R none tt))
