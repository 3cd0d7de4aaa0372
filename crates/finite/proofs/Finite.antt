-- The laws of finite sets, and of the rising lists that show them.
use Rattle.std.proofs.Common.{◌≡◌, Bool, true, false, ◌&&◌, ◌||◌, cond, T, List, [], ◌∷◌, map, length, Option, Some, None, is_some, refl, sym, ap, subst, ◌∙◌}
use Rattle.std.specs.declared.cmp.Ordering.{Ordering}
use Rattle.std.specs.declared.cmp.Ordering.TheVariants.{Equal}
use Rattle.std.specs.Cmp.{IsTotalOrder, tied_itself, Equal-is}
use Rattle.std.specs.Ordering.{eq_by_cmp, is_eq}
use Rattle.std.specs.List.{list_all, list_any}
use Rattle.std.specs.FinMap as fin
use Rattle.finite.specs.Finite.{Finite, IsRising, IsSubset, marked, empty, has, adds, adds_each, listing, of_rising, subset}

is_some-cond : (b : Bool) (x : Option (Unit {0})) → is_some (cond b (Some tt) x) ≡ (b || is_some x)
is_some-cond true x = refl
is_some-cond false x = refl

-- with nothing at each key, a look-up says no more than whether the key is there
same_looked_up : (x y : Option (Unit {0})) → is_some x ≡ is_some y → x ≡ y
same_looked_up None None e = refl
same_looked_up None (Some v) e = cc
same_looked_up (Some u) None e = cc
same_looked_up (Some u) (Some v) e = refl

or_swap : (a b c : Bool) → ((a || b) || c) ≡ (b || (a || c))
or_swap true true c = refl
or_swap true false c = refl
or_swap false b c = refl

or-false : (b : Bool) → b ≡ (b || false)
or-false true = refl
or-false false = refl

or_true : (a b : Bool) → b ≡ true → (a || b) ≡ true
or_true true b e = refl
or_true false b e = e

module _ {K : Type 0} where
  keys-marked : (ks : List K) → map (λ e. e.0) (marked ks) ≡ ks
  keys-marked [] = refl
  keys-marked (k ∷ ks) = ap (λ js. k ∷ js) (keys-marked ks)

  marked-keys : (es : List (K × Unit {0})) → marked (map (λ e. e.0) es) ≡ es
  marked-keys [] = refl
  marked-keys (e ∷ es) = ap (λ fs. e ∷ fs) (marked-keys es)

module _ {K : Type 0} {R : K → K → Ordering} where
  pub has-listing : (s : Finite R) (q : K) → has s q ≡ list_any (eq_by_cmp R q) (listing s)
  has-listing s q = fin.contains_key-keys s q

  pub listing_rises : (s : Finite R) → IsRising R (listing s)
  listing_rises s = subst (λ es. T (fin.is_sorted R es)) (sym (marked-keys (fin.entries s))) (fin.entries_sorted s)

  pub of_rising-listing : (s : Finite R) → of_rising (listing s) ≡ s
  of_rising-listing s =
      fin.same_entries_map _ _ (fin.entries-from_sorted R (marked (listing s)) (listing_rises s) ∙ marked-keys (fin.entries s))

module _ {K : Type 0} (R : K → K → Ordering) where
  pub has-empty : (q : K) → has (empty {R = R}) q ≡ false
  has-empty q = ap is_some (fin.get-empty R q)

  pub of_rising-empty : of_rising {R = R} [] ≡ empty
  of_rising-empty = fin.empty_of_len _ (fin.len-entries _ ∙ ap length (fin.entries-from_sorted R (marked []) tt))

  pub listing-of_rising : (ks : List K) → IsRising R ks → listing (of_rising {R = R} ks) ≡ ks
  listing-of_rising ks h = ap (map (λ e. e.0)) (fin.entries-from_sorted R (marked ks) h) ∙ keys-marked ks

  pub has-of_rising : (ks : List K) → IsRising R ks → (q : K) → has (of_rising {R = R} ks) q ≡ list_any (eq_by_cmp R q) ks
  has-of_rising ks h q = has-listing (of_rising ks) q ∙ ap (list_any (eq_by_cmp R q)) (listing-of_rising ks h)

module _ {K : Type 0} {R : K → K → Ordering} (o : IsTotalOrder R) where
  pub has-adds : (s : Finite R) (k q : K) → has (adds s k) q ≡ (eq_by_cmp R q k || has s q)
  has-adds s k q = ap is_some (fin.get-insert o s k tt q) ∙ is_some-cond (eq_by_cmp R q k) (fin.get s q)

  -- keys that tie are members alike
  pub has_tied : (s : Finite R) (q x : K) → R q x ≡ Equal → has s x ≡ has s q
  has_tied s q x e = ap is_some (fin.get_tied o s q x e)

  -- where only equal keys tie, sets with the same members are equal
  pub same_members : fin.IsAntisymmetric R → (s t : Finite R) → ((q : K) → has s q ≡ has t q) → s ≡ t
  same_members ties s t e = fin.same_map o ties s t (λ q. same_looked_up _ _ (e q))

  member_passes : (p : K → Bool) → ((q x : K) → R q x ≡ Equal → p x ≡ p q) → (ks : List K) → list_all p ks ≡ true → (q : K) → list_any (eq_by_cmp R q) ks ≡ true → p q ≡ true
  member_passes p alike [] all q one = cc
  member_passes p alike (x ∷ xs) all q one =
      elim (p x) as (λ a. p x ≡ a → (a && list_all p xs) ≡ true → p q ≡ true) [
        | true ↦ λ px rest. elim (eq_by_cmp R q x) as (λ b. eq_by_cmp R q x ≡ b → (b || list_any (eq_by_cmp R q) xs) ≡ true → p q ≡ true) [
          | true ↦ λ e _. sym (alike q x ((Equal-is (R q x)).0 e)) ∙ px
          | false ↦ λ _ later. member_passes p alike xs rest q later
        ] refl one
        | false ↦ λ _ no. cc
      ] refl all

  all_pass : (p : K → Bool) (ks : List K) → ((q : K) → list_any (eq_by_cmp R q) ks ≡ true → p q ≡ true) → list_all p ks ≡ true
  all_pass p [] f = refl
  all_pass p (x ∷ xs) f =
      rw (f x (ap (λ r. is_eq r || list_any (eq_by_cmp R x) xs) (tied_itself o x)))
      (all_pass p xs (λ q later. f q (or_true (eq_by_cmp R q x) _ later)))

  -- a test that ties answer alike, and that each key of a list passes, each key of a list with no other keys passes
  pub all_among : (p : K → Bool) → ((q x : K) → R q x ≡ Equal → p x ≡ p q) → (ks js : List K) → list_all p ks ≡ true
      → ((q : K) → list_any (eq_by_cmp R q) js ≡ true → list_any (eq_by_cmp R q) ks ≡ true) → list_all p js ≡ true
  all_among p alike ks js all among = all_pass p js (λ q one. member_passes p alike ks all q (among q one))

  pub members_of_subset : (s t : Finite R) → subset s t ≡ true → IsSubset s t
  members_of_subset s t all q one = member_passes (has t) (has_tied t) (listing s) all q (sym (has-listing s q) ∙ one)

  pub subset_of_members : (s t : Finite R) → IsSubset s t → subset s t ≡ true
  subset_of_members s t f = all_pass (has t) (listing s) (λ q one. f q (has-listing s q ∙ one))

  -- a test that ties answer alike, and that each member and k pass, each member of the set with k passes
  pub all-adds : (p : K → Bool) → ((q x : K) → R q x ≡ Equal → p x ≡ p q) → (s : Finite R) (k : K) → list_all p (listing s) ≡ true → p k ≡ true → list_all p (listing (adds s k)) ≡ true
  all-adds p alike s k all pass =
      all_pass p (listing (adds s k)) (λ q one.
      elim (eq_by_cmp R q k) as (λ b. eq_by_cmp R q k ≡ b → (b || has s q) ≡ true → p q ≡ true) [
        | true ↦ λ e _. sym (alike q k ((Equal-is (R q k)).0 e)) ∙ pass
        | false ↦ λ _ member. member_passes p alike (listing s) all q (sym (has-listing s q) ∙ member)
      ] refl (sym (has-adds s k q) ∙ has-listing (adds s k) q ∙ one))

  -- the members of a set with the keys of a list
  pub has-adds_each : (s : Finite R) (ks : List K) (q : K) → has (adds_each s ks) q ≡ (has s q || list_any (eq_by_cmp R q) ks)
  has-adds_each s [] q = or-false (has s q)
  has-adds_each s (k ∷ ks) q =
      has-adds_each (adds s k) ks q ∙ ap (λ b. b || list_any (eq_by_cmp R q) ks) (has-adds s k q) ∙ or_swap (eq_by_cmp R q k) (has s q) (list_any (eq_by_cmp R q) ks)
