-- The cycle of variables that is shown is that of their numbers.
use Rattle.std.proofs.Common.{◌≡◌, ℕ, zero, suc, ◌<◌, Bool, ◌&&◌, List, [], ◌∷◌, map, length, get_or, refl, sym, ap, ◌∙◌, arith}
use Rattle.std.specs.Prelude.{Option, Some, None, is_some}
use Rattle.std.specs.Option.{option_map, option_map_or, option_and_then}
use Rattle.std.specs.List.{list_any, find, range_with_len}
use Rattle.std.proofs.lemmas.List.FromFn.{fill_by_all, length-range_with_len}
use Rattle.expansion_laws.specs.Cycles.{leads, fewest, way, cycle_from, first_cycle}
use Rattle.expansion_laws.proofs.Found.{found_map, any_map, same_first, same_any, found_within}

module _ {V : Type 0} (before : V → V → Bool) (vs : List V) (d : V) (link : ℕ → ℕ → Bool)
    (same : (i j : ℕ) → i < length vs → j < length vs → link i j ≡ before (get_or vs i d) (get_or vs j d)) where
  abbrev at : ℕ → V
  at i = get_or vs i d

  abbrev numbers : List ℕ
  numbers = range_with_len 0 (length vs)

  listed : vs ≡ map at numbers
  listed = fill_by_all at vs (length vs) d refl (λ k within. refl)

  leads_same : (k i j : ℕ) → i < length vs → j < length vs → leads before vs k (at i) (at j) ≡ leads link numbers k i j
  leads_same zero i j in_i in_j = sym (same i j in_i in_j)
  leads_same (suc k) i j in_i in_j =
      ap (list_any (λ w. before (at i) w && leads before vs k w (at j))) listed ∙ any_map at (λ w. before (at i) w && leads before vs k w (at j)) numbers
      ∙ same_any (λ w. before (at i) (at w) && leads before vs k (at w) (at j)) (λ w. link i w && leads link numbers k w j) 0 (length vs)
      (λ w low high. let in_w : w < length vs = omega arith in (λ t. sym (same i w in_i in_w) t && leads_same k w j in_w in_j t))

  long : length numbers ≡ length vs
  long = length-range_with_len 0 (length vs)

  fewest_same : (i j : ℕ) → i < length vs → j < length vs → fewest before vs (at i) (at j) ≡ fewest link numbers i j
  fewest_same i j in_i in_j =
      same_first (λ k. leads before vs k (at i) (at j)) (λ k. leads link numbers k i j) 0 (length vs) (λ k low high. leads_same k i j in_i in_j)
      ∙ ap (λ m. find (λ k. leads link numbers k i j) (range_with_len 0 m)) (sym long)

  -- the first variable that passes is that of the first number
  first_same : (p : V → Bool) (q : ℕ → Bool) → ((i : ℕ) → i < length vs → p (at i) ≡ q i) → find p vs ≡ option_map at (find q numbers)
  first_same p q agree =
      ap (find p) listed ∙ found_map at p numbers ∙ ap (option_map at) (same_first (λ i. p (at i)) q 0 (length vs) (λ i low high. agree i (omega arith)))

  way_same : (k i j : ℕ) → i < length vs → j < length vs → way before vs k (at i) (at j) ≡ map at (way link numbers k i j)
  way_same zero i j in_i in_j = refl
  way_same (suc k) i j in_i in_j =
      let q : ℕ → Bool = λ w. link i w && leads link numbers k w j in
      ap (λ o. option_map_or (λ w. w ∷ way before vs k w (at j)) o [])
      (first_same (λ w. before (at i) w && leads before vs k w (at j)) q (λ w in_w. (λ t. sym (same i w in_i in_w) t && leads_same k w j in_w in_j t)))
      ∙ elim (find q numbers) as (λ o. find q numbers ≡ o → option_map_or (λ w. w ∷ way before vs k w (at j)) (option_map at o) [] ≡ map at (option_map_or (λ w. w ∷ way link numbers k w j) o [])) [
        | None ↦ λ e. refl
        | Some w ↦ λ e. let within = found_within q 0 (length vs) w e in ap (λ us. at w ∷ us) (way_same k w j (omega arith) in_j)
      ] refl

  cycle_by : (i : ℕ) → i < length vs → (o : Option ℕ) → option_map (λ k. at i ∷ way before vs k (at i) (at i)) o ≡ option_map (map at) (option_map (λ k. i ∷ way link numbers k i i) o)
  cycle_by i in_i None = refl
  cycle_by i in_i (Some k) = ap (λ us. Some (at i ∷ us)) (way_same k i i in_i in_i)

  cycle_from_same : (i : ℕ) → i < length vs → cycle_from before vs (at i) ≡ option_map (map at) (cycle_from link numbers i)
  cycle_from_same i in_i = ap (option_map (λ k. at i ∷ way before vs k (at i) (at i))) (fewest_same i i in_i in_i) ∙ cycle_by i in_i (fewest link numbers i i)

  first_by : (q : ℕ → Bool) (o : Option ℕ) → find q numbers ≡ o → option_and_then (cycle_from before vs) (option_map at o) ≡ option_map (map at) (option_and_then (cycle_from link numbers) o)
  first_by q None e = refl
  first_by q (Some i) e = let within = found_within q 0 (length vs) i e in cycle_from_same i (omega arith)

  pub first_cycle_same : first_cycle before vs ≡ option_map (map at) (first_cycle link numbers)
  first_cycle_same =
      let q : ℕ → Bool = λ i. is_some (fewest link numbers i i) in
      ap (option_and_then (cycle_from before vs)) (first_same (λ v. is_some (fewest before vs v v)) q (λ i in_i. ap is_some (fewest_same i i in_i in_i)))
      ∙ first_by q (find q numbers) refl
