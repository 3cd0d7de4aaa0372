-- Lists that begin with the same numbers.
use Rattle.std.proofs.Common.{◌≡◌, ℕ, zero, suc, ◌+◌, ◌-◌, ◌%◌, ◌^◌, ◌<◌, ◌≤◌, eqb, cond, Bool, true, not, List, [], ◌∷◌, ◌++◌, map, length, get_or, take, drop, length-drop, refl, sym, ap, ◌∙◌, subst, arith}
use Rattle.std.specs.List.{prefix_len}
use Rattle.std.proofs.lemmas.Bool.{not-true, not-false, eqb-true}
use Rattle.std.proofs.lemmas.Simd.{tops_compared, mask_l-mod, get_or-chunk, length-chunk, length-zip2, first_set_mask_l, get_or-zip2}
use Rattle.std.proofs.lemmas.List.{take_all, take_more_same, take_rest, length-map}
use Rattle.std.proofs.lemmas.List.Sums.{prefix_len-le-length, prefix_len_passes}
use lib.Lanes.{chunk, zip2, mask_l, top}
use mir.Syntax.{w32}
use mir.Val.{bits, hbits}
use Rattle.arena_graph.specs.Runs.{IsSameRun, first_set}

pub take_both : (m n : ℕ) (xs : List ℕ) → take (m + n) xs ≡ take m xs ++ take n (drop m xs)
take_both zero n xs = let e : 0 + n ≡ n = omega arith in rw e refl
take_both (suc m) n [] = let e : suc m + n ≡ suc (m + n) = omega arith in rw e (sym (take_all n [] (omega arith)))
take_both (suc m) n (x ∷ xs) = let e : suc m + n ≡ suc (m + n) = omega arith in rw e (ap (λ l. x ∷ l) (take_both m n xs))

-- a run goes on with a run of what is left
pub run_on : (xs ys : List ℕ) (m n : ℕ) → IsSameRun xs ys m → IsSameRun (drop m xs) (drop m ys) n → IsSameRun xs ys (m + n)
run_on xs ys m n h k = record {
  first = omega (arith, k.first, h.first, length-drop m xs);
  second = omega (arith, k.second, h.second, length-drop m ys);
  same = take_both m n xs ∙ (λ i. h.same i ++ k.same i) ∙ sym (take_both m n ys);
}

-- a run of what slices hold
pub run_of_rest : (xs ys : List ℕ) (i j n : ℕ) → IsSameRun (take (length xs - i) (drop i xs)) (take (length ys - j) (drop j ys)) n → IsSameRun (drop i xs) (drop j ys) n
run_of_rest xs ys i j n h = subst (λ (l : List ℕ). IsSameRun l (drop j ys) n) (take_rest xs i) (subst (λ (l : List ℕ). IsSameRun (take (length xs - i) (drop i xs)) l n) (take_rest ys j) h)

pub no_run : (xs ys : List ℕ) → IsSameRun xs ys 0
no_run xs ys = record { first = omega arith; second = omega arith; same = refl }

-- one more number
pub run_more : (xs ys : List ℕ) (n : ℕ) → IsSameRun xs ys n → n < length xs → n < length ys → get_or xs n 0 ≡ get_or ys n 0 → IsSameRun xs ys (n + 1)
run_more xs ys n h a b e = record { first = omega arith; second = omega arith; same = take_more_same xs ys n 0 a b h.same e }

-- numbers that are the same one by one
pub run_of : (xs ys : List ℕ) (n : ℕ) → n ≤ length xs → n ≤ length ys → ((k : ℕ) → k < n → get_or xs k 0 ≡ get_or ys k 0) → IsSameRun xs ys n
run_of xs ys zero a b each = no_run xs ys
run_of xs ys (suc n) a b each =
    let e : suc n ≡ n + 1 = omega arith in
    rw e (run_more xs ys n (run_of xs ys n (omega arith) (omega arith) (λ k l. each k (omega arith))) (omega arith) (omega arith) (each n (omega arith)))

abbrev Pair : Type 0
Pair = ℕ × ℕ

abbrev paired : List ℕ → List ℕ → List Pair
paired = zip2 (λ x y. (x, y))

abbrev unequal : Pair → Bool
unequal p = not (eqb p.0 p.1)

compared : (xs ys : List ℕ) → zip2 (λ x y. not (eqb x y)) xs ys ≡ map unequal (paired xs ys)
compared [] ys = refl
compared (x ∷ xs) [] = refl
compared (x ∷ xs) (y ∷ ys) = ap (λ l. not (eqb x y) ∷ l) (compared xs ys)

module _ (n : ℕ) (few : n ≤ 64) (xs ys : List ℕ) (room : n ≤ length xs) (there : n ≤ length ys) where
  abbrev us : List ℕ
  us = chunk 0 n xs

  abbrev vs : List ℕ
  vs = chunk 0 n ys

  long : length us ≡ n
  long = length-chunk 0 n xs (omega arith)

  wide : length vs ≡ n
  wide = length-chunk 0 n ys (omega arith)

  pairs : length (paired us vs) ≡ n
  pairs = length-zip2 (λ (x y : ℕ). (x, y)) us vs (long ∙ sym wide) ∙ long

  abbrev mask : ℕ
  mask = mask_l (map unequal (paired us vs))

  masked : mask_l (map (top (hbits w32)) (zip2 (λ a b. cond (not (eqb a b)) (2 ^ bits w32 - 1) 0) us vs)) % 2 ^ 64 ≡ mask
  masked =
      ap (λ l. mask_l l % 2 ^ 64) (tops_compared w32 (λ x y. not (eqb x y)) us vs ∙ compared us vs)
      ∙ mask_l-mod (map unequal (paired us vs)) 64 (omega (arith, length-map (paired us vs) unequal, pairs))

  abbrev same_pair : Pair → Bool
  same_pair p = not (unequal p)

  -- the numbers in lanes before the first that differs are the same
  pub lanes_run : (r : ℕ) → r ≡ first_set (mask_l (map (top (hbits w32)) (zip2 (λ a b. cond (not (eqb a b)) (2 ^ bits w32 - 1) 0) us vs)) % 2 ^ 64) n → IsSameRun xs ys r
  lanes_run r found =
      let counted : r ≡ prefix_len same_pair (paired us vs) = found ∙ ap (λ m. first_set m n) masked ∙ first_set_mask_l unequal (paired us vs) n pairs few in
      let bound : r ≤ n = omega (arith, counted, pairs, prefix_len-le-length same_pair (paired us vs)) in
      run_of xs ys r (omega arith) (omega arith) (λ k below.
      let passes : same_pair (get_or (paired us vs) k (0, 0)) ≡ true = prefix_len_passes same_pair (paired us vs) k (0, 0) (omega (arith, counted)) in
      let pair : get_or (paired us vs) k (0, 0) ≡ (get_or us k 0, get_or vs k 0) = get_or-zip2 (λ (x y : ℕ). (x, y)) us vs k 0 0 (0, 0) (omega (arith, long)) (omega (arith, wide)) in
      let equal : eqb (get_or us k 0) (get_or vs k 0) ≡ true = not-false _ (not-true _ (ap same_pair (sym pair) ∙ passes)) in
      let e : 0 + k ≡ k = omega arith in
      ap (λ m. get_or xs m 0) (sym e) ∙ sym (get_or-chunk 0 n xs k 0 (omega arith)) ∙ eqb-true _ _ equal ∙ get_or-chunk 0 n ys k 0 (omega arith) ∙ ap (λ m. get_or ys m 0) e)
