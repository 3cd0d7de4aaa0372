-- How often the elements of a list pass a test, in lists with elements that come and go.
use Rattle.std.proofs.Common.{◌≡◌, ℕ, zero, suc, ◌+◌, ◌<◌, ◌≤◌, Bool, true, false, not, ◌||◌, List, [], ◌∷◌, ◌++◌, length, get_or, take, drop, Ok, Err, Result, refl, sym, ap, ◌∙◌, arith}
use Rattle.std.specs.declared.cmp.Ordering.TheVariants.{Less, Equal, Greater}
use Rattle.std.specs.FinMap as fin
use Rattle.std.specs.List.{All, list_any, insert, remove}
use Rattle.std.specs.Ordering.{nat_cmp, eq_by_cmp}
use Rattle.std.proofs.lemmas.Cmp.{nat_cmp_total}
use Rattle.std.proofs.lemmas.List.{take_more, take-append-drop}
use Rattle.std.proofs.lemmas.List.Elements.{All-head, All-tail}
use Rattle.finite.specs.Finite.{IsRising}
use Rattle.finite.specs.Place.{place, place_by, later}
use Rattle.finite.proofs.Rising.{head_below, tail_rises, below_none}
use Rattle.proof_trees.proofs.Passing.{one_passes}
use Rattle.arena.proofs.SetLaws.{among}
use Rattle.arena_graph.specs.Changes.{differ, is_odd, AreChanges}
use Rattle.arena_graph.specs.Runs.{IsSameRun}
use Rattle.arena_graph.proofs.SameRuns.{take_both}

pub differ-false : (a : Bool) → differ a false ≡ a
differ-false true = refl
differ-false false = refl

differ-assoc : (a b c : Bool) → differ (differ a b) c ≡ differ a (differ b c)
differ-assoc true true true = refl
differ-assoc true true false = refl
differ-assoc true false c = refl
differ-assoc false b c = refl

differ_swap : (a b c : Bool) → differ a (differ b c) ≡ differ b (differ a c)
differ_swap true true c = refl
differ_swap true false c = refl
differ_swap false true c = refl
differ_swap false false c = refl

differ_comm : (a b : Bool) → differ a b ≡ differ b a
differ_comm true true = refl
differ_comm true false = refl
differ_comm false true = refl
differ_comm false false = refl

-- the first one at the end
pub differ_round : (a b c : Bool) → differ a (differ b c) ≡ differ b (differ c a)
differ_round a b c = differ_swap a b c ∙ ap (differ b) (differ_comm a c)

differ_twice : (a b : Bool) → differ a (differ a b) ≡ b
differ_twice true true = refl
differ_twice true false = refl
differ_twice false b = refl

-- what both differ from
same_twice : (a b c : Bool) → differ (differ a c) (differ b c) ≡ differ a b
same_twice a b false = λ i. differ (differ-false a i) (differ-false b i)
same_twice true true true = refl
same_twice true false true = refl
same_twice false true true = refl
same_twice false false true = refl

differ_last : (a b c : Bool) → differ (differ a b) c ≡ differ (differ a c) b
differ_last true true true = refl
differ_last true true false = refl
differ_last true false true = refl
differ_last true false false = refl
differ_last false true true = refl
differ_last false true false = refl
differ_last false false true = refl
differ_last false false false = refl

pub is_odd-append : {X : Type 0} (p : X → Bool) (xs ys : List X) → is_odd p (xs ++ ys) ≡ differ (is_odd p xs) (is_odd p ys)
is_odd-append p [] ys = refl
is_odd-append p (x ∷ xs) ys = ap (differ (p x)) (is_odd-append p xs ys) ∙ sym (differ-assoc (p x) (is_odd p xs) (is_odd p ys))

pub is_odd-push : {X : Type 0} (p : X → Bool) (xs : List X) (x : X) → is_odd p (xs ++ x ∷ []) ≡ differ (is_odd p xs) (p x)
is_odd-push p xs x = is_odd-append p xs (x ∷ []) ∙ ap (differ (is_odd p xs)) (differ-false (p x))

-- one more element
pub is_odd_more : (p : ℕ → Bool) (xs : List ℕ) (i : ℕ) → i < length xs → is_odd p (take (i + 1) xs) ≡ differ (is_odd p (take i xs)) (p (get_or xs i 0))
is_odd_more p xs i within = ap (is_odd p) (take_more xs i 0 within) ∙ is_odd-push p (take i xs) (get_or xs i 0)

module _ (changes old new : List ℕ) (i j : ℕ) (so_far : AreChanges changes (take i old) (take j new)) where
  -- a number that goes
  pub more_goes : i < length old → AreChanges (changes ++ get_or old i 0 ∷ []) (take (i + 1) old) (take j new)
  more_goes within p =
      so_far p ∙ sym (same_twice (is_odd p (take i old)) (is_odd p changes) (p (get_or old i 0)))
      ∙ (λ k. differ (sym (is_odd_more p old i within) k) (sym (is_odd-push p changes (get_or old i 0)) k))

  -- a number that comes
  pub more_comes : j < length new → AreChanges (changes ++ get_or new j 0 ∷ []) (take i old) (take (j + 1) new)
  more_comes within p =
      is_odd_more p new j within ∙ ap (λ b. differ b (p (get_or new j 0))) (so_far p)
      ∙ differ-assoc (is_odd p (take i old)) (is_odd p changes) (p (get_or new j 0))
      ∙ ap (differ (is_odd p (take i old))) (sym (is_odd-push p changes (get_or new j 0)))

  -- a number that stays
  pub more_stays : i < length old → j < length new → get_or old i 0 ≡ get_or new j 0 → AreChanges changes (take (i + 1) old) (take (j + 1) new)
  more_stays within there same p =
      is_odd_more p new j there ∙ (λ k. differ (so_far p k) (p (sym same k)))
      ∙ differ_last (is_odd p (take i old)) (is_odd p changes) (p (get_or old i 0))
      ∙ ap (λ b. differ b (is_odd p changes)) (sym (is_odd_more p old i within))

  -- a run of numbers that stay
  pub more_stay : (n : ℕ) → IsSameRun (drop i old) (drop j new) n → AreChanges changes (take (i + n) old) (take (j + n) new)
  more_stay n run p =
      let s = is_odd p (take n (drop i old)) in
      ap (is_odd p) (take_both j n new) ∙ is_odd-append p (take j new) (take n (drop j new))
      ∙ (λ k. differ (so_far p k) (is_odd p (sym run.same k)))
      ∙ differ_last (is_odd p (take i old)) (is_odd p changes) s
      ∙ ap (λ b. differ b (is_odd p changes)) (sym (is_odd-append p (take i old) (take n (drop i old))) ∙ ap (is_odd p) (sym (take_both i n old)))

  -- what is left of both lists goes and comes
  pub all_changes : AreChanges ((changes ++ drop i old) ++ drop j new) old new
  all_changes p =
      let o = is_odd p (take i old) in
      let c = is_odd p changes in
      let d = is_odd p (drop i old) in
      let e = is_odd p (drop j new) in
      ap (is_odd p) (sym (take-append-drop j new)) ∙ is_odd-append p (take j new) (drop j new)
      ∙ ap (λ b. differ b e) (so_far p ∙ sym (same_twice o c d))
      ∙ differ-assoc (differ o d) (differ c d) e
      ∙ (λ k. differ (sym (is_odd-append p (take i old) (drop i old)) k) (differ (sym (is_odd-append p changes (drop i old)) k) e))
      ∙ (λ k. differ (is_odd p (take-append-drop i old k)) (sym (is_odd-append p (changes ++ drop i old) (drop j new)) k))

-- no change in a run of numbers that stay
pub none_change : (old new : List ℕ) (n : ℕ) → IsSameRun old new n → AreChanges [] (take n old) (take n new)
none_change old new n run p = ap (is_odd p) (sym run.same) ∙ sym (differ-false (is_odd p (take n old)))

-- without the element at a place
pub is_odd-remove : (p : ℕ → Bool) (xs : List ℕ) (i d : ℕ) → i < length xs → is_odd p (remove xs i) ≡ differ (p (get_or xs i d)) (is_odd p xs)
is_odd-remove p [] i d within = absurd (omega arith)
is_odd-remove p (x ∷ xs) zero d within = sym (differ_twice (p x) (is_odd p xs))
is_odd-remove p (x ∷ xs) (suc i) d within =
    ap (differ (p x)) (is_odd-remove p xs i d (omega arith)) ∙ differ_swap (p x) (p (get_or xs i d)) (is_odd p xs)

-- with an element at a place
pub is_odd-insert : (p : ℕ → Bool) (xs : List ℕ) (i k : ℕ) → i ≤ length xs → is_odd p (insert xs i k) ≡ differ (p k) (is_odd p xs)
is_odd-insert p [] zero k within = refl
is_odd-insert p [] (suc i) k within = absurd (omega arith)
is_odd-insert p (x ∷ xs) zero k within = refl
is_odd-insert p (x ∷ xs) (suc i) k within = ap (differ (p x)) (is_odd-insert p xs i k (omega arith)) ∙ differ_swap (p x) (p k) (is_odd p xs)

-- what is found at its place is the number
pub found_is : (k : ℕ) (xs : List ℕ) (i d : ℕ) → Ok i ≡ place nat_cmp k xs → get_or xs i d ≡ k
found_is k [] i d e = cc
found_is k (x ∷ xs) i d e =
    elim (nat_cmp x k) as (λ r. nat_cmp x k ≡ r → Ok i ≡ place_by r (place nat_cmp k xs) → get_or (x ∷ xs) i d ≡ k) [
      | Less ↦ λ _ found. later_is (place nat_cmp k xs) (λ j at. found_is k xs j d at) i found
      | Equal ↦ λ same found. let first : i ≡ 0 = cc in ap (λ n. get_or (x ∷ xs) n d) first ∙ fin.nat_cmp-IsAntisymmetric x k same
      | Greater ↦ λ _ found. cc
    ] refl e
  where
    later_is : (r : Result ℕ ℕ) → ((j : ℕ) → Ok j ≡ r → get_or xs j d ≡ k) → (i : ℕ) → Ok i ≡ later r → get_or (x ∷ xs) i d ≡ k
    later_is (Ok j) f i found = let next : i ≡ suc j = cc in ap (λ n. get_or (x ∷ xs) n d) next ∙ f j refl
    later_is (Err j) f i found = cc

-- of a rising list an odd number passes a test that one number passes at most just where one does
module _ (P : ℕ → Type 0) (p : ℕ → Bool) (only : (m n : ℕ) → P m → P n → p m ≡ true → p n ≡ true → m ≡ n) where
  no_other : (n : ℕ) (ns : List ℕ) → IsRising nat_cmp (n ∷ ns) → All P (n ∷ ns) → p n ≡ true → list_any p ns ≡ false
  no_other n ns h all here =
      elim (list_any p ns) as (λ b. list_any p ns ≡ b → b ≡ false) [
        | true ↦ λ any.
            let one = one_passes nat_cmp_total fin.nat_cmp-IsAntisymmetric p ns any in
            let same : one.0 ≡ n = only one.0 n (among P one.0 ns one.1 (All-tail P n ns all)) (All-head P n ns all) one.2 here in
            let again : list_any (eq_by_cmp nat_cmp n) ns ≡ true = ap (λ m. list_any (eq_by_cmp nat_cmp m) ns) (sym same) ∙ one.1 in
            sym again ∙ below_none nat_cmp n ns (head_below nat_cmp n ns h)
        | false ↦ λ _. refl
      ] refl

  pub one_odd : (ns : List ℕ) → IsRising nat_cmp ns → All P ns → is_odd p ns ≡ list_any p ns
  one_odd [] h all = refl
  one_odd (n ∷ ns) h all =
      let rest : is_odd p ns ≡ list_any p ns = one_odd ns (tail_rises nat_cmp n ns h) (All-tail P n ns all) in
      elim (p n) as (λ b. p n ≡ b → differ b (is_odd p ns) ≡ (b || list_any p ns)) [
        | true ↦ λ here. ap not (rest ∙ no_other n ns h all here)
        | false ↦ λ _. rest
      ] refl
