-- Costs, item by item.
use Rattle.std.proofs.Common.{◌≡◌, ℕ, zero, suc, ◌+◌, ◌*◌, ◌^◌, ◌<◌, ◌≤◌, List, [], ◌∷◌, ◌++◌, map, length, take, drop, get_or, sum, Option, Some, refl, sym, ap, ◌∙◌, arith}
use Rattle.std.proofs.Math.Nat.{mul-le-mul}
use Rattle.std.specs.declared.cmp.Ordering.{Ordering}
use Rattle.std.specs.declared.cmp.Ordering.TheVariants.{Less, Equal, Greater}
use Rattle.std.specs.Ordering.{ordering_then}
use Rattle.std.proofs.lemmas.List.{drop_more, take_more, take_all, get_or-map}
use Rattle.std.proofs.lemmas.List.Sums.{sum_by-append, sum_by-cons}
use Rattle.finite.specs.Finite as set
use Rattle.herbrand_laws.specs.Herbrand.{Item}
use Rattle.herbrand_laws.specs.Patterns.{TermSet}
use Rattle.delta_table.specs.declared.founds.Found.{Found}
use Rattle.delta_table.specs.declared.tallies.Tally.{Tally}
use Rattle.herbrand_laws.specs.Candidates.{least, lesser}
use Rattle.delta_rows.specs.ValueOrder.{by_cost}
use Rattle.delta_table.specs.FoundRows.{nothing, tally_at, tallies_at}
use Rattle.delta_table.specs.Chosen.{zipped, raised, share, cost_at}

-- a share fits
pub share_fits : (q n : ℕ) → q ≤ 2 ^ 26 → n < 2 ^ 65 → q * n < 2 ^ 128
share_fits q n h g =
    let most : q * n ≤ 2 ^ 26 * 2 ^ 65 = mul-le-mul {n₁ = q} {m₁ = n} {n₂ = 2 ^ 26} {m₂ = 2 ^ 65} h (omega arith) in
    omega arith

module _ {A B C : Type 0} (f : A → B → C) where
  -- what is left of both lists
  pub zipped_more : (xs : List A) (ys : List B) (k : ℕ) (x : A) (y : B) → k < length xs → k < length ys
      → zipped f (drop k xs) (drop k ys) ≡ f (get_or xs k x) (get_or ys k y) ∷ zipped f (drop (k + 1) xs) (drop (k + 1) ys)
  zipped_more xs ys k x y h g = λ i. zipped f (drop_more xs k x h i) (drop_more ys k y g i)

  zipped-push : (xs : List A) (ys : List B) (x : A) (y : B) → length xs ≡ length ys → zipped f (xs ++ x ∷ []) (ys ++ y ∷ []) ≡ zipped f xs ys ++ f x y ∷ []
  zipped-push [] [] x y e = refl
  zipped-push [] (b ∷ ys) x y e = absurd (omega arith)
  zipped-push (a ∷ xs) [] x y e = absurd (omega arith)
  zipped-push (a ∷ xs) (b ∷ ys) x y e = ap (λ zs. f a b ∷ zs) (zipped-push xs ys x y (omega arith))

  pub zipped-map : {D : Type 0} (g : D → A) (h : D → B) (ws : List D) → zipped f (map g ws) (map h ws) ≡ map (λ w. f (g w) (h w)) ws
  zipped-map g h [] = refl
  zipped-map g h (w ∷ ws) = ap (λ zs. f (g w) (h w) ∷ zs) (zipped-map g h ws)

sum-push : (ns : List ℕ) (n : ℕ) → sum (ns ++ n ∷ []) ≡ sum ns + n
sum-push ns n =
    let both = sum_by-append (λ m. m) ns (n ∷ []) in
    let one = sum_by-cons (λ m. m) n [] in
    omega arith

-- the cost with one item more
cost_more : (w : List ℕ) (items : List Item) (fss : List (List Found)) (i : Item) (fs : List Found) → length items ≡ length fss
    → cost_at w items fss + share i (tally_at w fs) ≡ cost_at w (items ++ i ∷ []) (fss ++ fs ∷ [])
cost_more w items fss i fs e =
    let shares = λ (j : Item) (gs : List Found). share j (tally_at w gs) in
    let pushed = ap sum (zipped-push shares items fss i fs e) ∙ sum-push (zipped shares items fss) (share i (tally_at w fs)) in
    omega arith

-- the costs of the keys with the next item
pub costs_more : (keys : List (List ℕ)) (items : List Item) (fss : List (List Found)) (k : ℕ) (i : Item) (fs : List Found) → length fss ≡ length items → k < length items → i ≡ get_or items k i → fs ≡ get_or fss k fs
    → zipped (λ (c : ℕ) (t : Tally). c + share i t) (map (λ w. cost_at w (take k items) (take k fss)) keys) (tallies_at keys fs) ≡ map (λ w. cost_at w (take (k + 1) items) (take (k + 1) fss)) keys
costs_more keys items fss k i fs e l here there =
    let first : take (k + 1) items ≡ take k items ++ i ∷ [] = take_more items k i l ∙ ap (λ j. take k items ++ j ∷ []) (sym here) in
    let second : take (k + 1) fss ≡ take k fss ++ fs ∷ [] = take_more fss k fs (omega arith) ∙ ap (λ gs. take k fss ++ gs ∷ []) (sym there) in
    let as_many : length (take k items) ≡ length (take k fss) = lengths items fss k e in
    zipped-map (λ (c : ℕ) (t : Tally). c + share i t) (λ w. cost_at w (take k items) (take k fss)) (λ w. tally_at w fs) keys
    ∙ ((λ n. map (λ w. cost_more w (take k items) (take k fss) i fs as_many n) keys)
    ∙ λ n. map (λ w. cost_at w (sym first n) (sym second n)) keys)
  where
    lengths : {A B : Type 0} (xs : List A) (ys : List B) (k : ℕ) → length ys ≡ length xs → length (take k xs) ≡ length (take k ys)
    lengths xs ys zero e = refl
    lengths [] [] (suc k) e = refl
    lengths [] (y ∷ ys) (suc k) e = absurd (omega arith)
    lengths (x ∷ xs) [] (suc k) e = absurd (omega arith)
    lengths (x ∷ xs) (y ∷ ys) (suc k) e = ap suc (lengths xs ys k (omega arith))

-- the shares of an item without rows, all at once
module _ (i : Item) where
  raised_nothing : (n : ℕ) (costs : List ℕ) (keys : List (List ℕ)) → length costs ≡ length keys
      → raised (n + share i nothing) costs ≡ zipped (λ (c : ℕ) (t : Tally). c + share i t) (raised n costs) (tallies_at keys [])
  raised_nothing n [] keys e = refl
  raised_nothing n (c ∷ cs) [] e = absurd (omega arith)
  raised_nothing n (c ∷ cs) (w ∷ ws) e = λ k. moved c (share i nothing) k ∷ raised_nothing n cs ws (omega arith) k
    where
      moved : (c s : ℕ) → c + (n + s) ≡ c + n + s
      moved c s = omega arith

  pub raised_same : (n m : ℕ) (costs : List ℕ) (keys : List (List ℕ)) (rows : List Found) → length rows ≡ 0 → m ≡ n + share i nothing → length costs ≡ length keys
      → raised m costs ≡ zipped (λ (c : ℕ) (t : Tally). c + share i t) (raised n costs) (tallies_at keys rows)
  raised_same n m costs keys [] none e long = ap (λ x. raised x costs) e ∙ raised_nothing n costs keys long
  raised_same n m costs keys (f ∷ fs) none e long = absurd (omega arith)

  -- what is added to each stays added
  pub raised_zipped : (n : ℕ) (costs : List ℕ) (ts : List Tally)
      → raised n (zipped (λ (c : ℕ) (t : Tally). c + share i t) costs ts) ≡ zipped (λ (c : ℕ) (t : Tally). c + share i t) (raised n costs) ts
  raised_zipped n [] ts = refl
  raised_zipped n (c ∷ cs) [] = refl
  raised_zipped n (c ∷ cs) (t ∷ ts) = λ k. moved c (share i t) k ∷ raised_zipped n cs ts k
    where
      moved : (c s : ℕ) → c + s + n ≡ c + n + s
      moved c s = omega arith

-- the costs without items, and by all of them

pub costs_none : (keys : List (List ℕ)) → map (λ (w : List ℕ). 1 + length w) keys ≡ map (λ w. cost_at w [] []) keys
costs_none [] = refl
costs_none (w ∷ ws) = λ k. same w k ∷ costs_none ws k
  where
    same : (w : List ℕ) → 1 + length w ≡ 1 + length w + 0
    same w = omega arith

pub costs_all : (keys : List (List ℕ)) (items : List Item) (fss : List (List Found)) (n : ℕ) → length items ≤ n → length fss ≤ n
    → map (λ w. cost_at w (take n items) (take n fss)) keys ≡ map (λ w. cost_at w items fss) keys
costs_all keys items fss n l h = λ k. map (λ w. cost_at w (take_all n items l k) (take_all n fss h k)) keys

-- an order that differs decides
pub then_unequal : (o x : Ordering) → (o ≡ Equal → ⊥) → o ≡ ordering_then o x
then_unequal Less x d = refl
then_unequal Equal x d = absurd (d refl)
then_unequal Greater x d = refl

-- a cost at a place is that of the set there
pub cost_read : {A B : Type 0} (f : B → ℕ) (g : A → B) (keys : List A) (costs : List ℕ) (at : ℕ) (d : A) (e : B) → costs ≡ map (λ k. f (g k)) keys → at < length keys → get_or costs at 0 ≡ f (get_or (map g keys) at e)
cost_read f g keys costs at d e same l =
    ap (λ ns. get_or ns at 0) same
    ∙ (get_or-map (λ k. f (g k)) keys at d 0 l ∙ ap f (sym (get_or-map g keys at d e l)))

-- the least key, one step back
pub least_step : (f : TermSet → ℕ) (keys : List TermSet) (at m : ℕ) (x : TermSet) (o : Option TermSet) → at < length keys → m ≡ at + 1
    → o ≡ least (by_cost f) (drop m keys) → x ≡ lesser (by_cost f) (get_or keys at set.empty) o → Some x ≡ least (by_cost f) (drop at keys)
least_step f keys at m x o l e g h =
    ap Some (h ∙ ap (lesser (by_cost f) (get_or keys at set.empty)) (g ∙ ap (λ n. least (by_cost f) (drop n keys)) e))
    ∙ ap (least (by_cost f)) (sym (drop_more keys at set.empty l))
