-- The step at the first tree of a list that has one, by that tree's place.
use Rattle.std.proofs.Common.{◌≡◌, ℕ, zero, suc, ◌+◌, ◌<◌, Bool, true, false, cond, List, [], ◌∷◌, ◌++◌, map, take, drop, length, Option, Some, None, refl, sym, ap, subst, ◌∙◌, arith}
use Rattle.std.specs.Prelude.{option_map}
use Rattle.std.specs.Option.{is_some}
use Rattle.std.specs.List.{position, position_from, remove, slice_get}
use Rattle.std.proofs.lemmas.Iterator.Adapters.{position_from-zero}
use Rattle.building_laws.specs.Lists.{Placed}
use Rattle.building_laws.specs.Building.{Step, or_else, within, first_step}
use Rattle.arena_building.specs.Putting.{put}

-- the place of the first element that passes
abbrev pub first_place : {X : Type 0} → (X → Bool) → List X → Option ℕ
first_place t [] = None
first_place t (x ∷ xs) = cond (t x) (Some 0) (option_map suc (first_place t xs))

pub first_mapped : {X Y : Type 0} (t : Y → Bool) (f : X → Y) (xs : List X) → first_place t (map f xs) ≡ first_place (λ x. t (f x)) xs
first_mapped t f [] = refl
first_mapped t f (x ∷ xs) = ap (λ o. cond (t (f x)) (Some 0) (option_map suc o)) (first_mapped t f xs)

-- places count from i
counted_from : (i : ℕ) (o : Option ℕ) → option_map (λ n. (i + 1) + n) o ≡ option_map (λ n. i + n) (option_map suc o)
counted_from i None = refl
counted_from i (Some n) = ap Some (omega arith)

counted : (i : ℕ) (b : Bool) (o r : Option ℕ) → r ≡ option_map (λ n. (i + 1) + n) o → cond b (Some i) r ≡ option_map (λ n. i + n) (cond b (Some 0) (option_map suc o))
counted i true o r e = ap Some (omega arith)
counted i false o r e = e ∙ counted_from i o

placed_from : {X : Type 0} (t : X → Bool) (i : ℕ) (xs : List X) → position_from t i xs ≡ option_map (λ n. i + n) (first_place t xs)
placed_from t i [] = refl
placed_from t i (x ∷ xs) = counted i (t x) (first_place t xs) (position_from t (i + 1) xs) (placed_from t (i + 1) xs)

from_nothing : (o : Option ℕ) → option_map (λ n. 0 + n) o ≡ o
from_nothing None = refl
from_nothing (Some n) = ap Some (omega arith)

pub position_is : {X : Type 0} (t : X → Bool) (xs : List X) → position t xs ≡ first_place t xs
position_is t xs = position_from-zero t xs ∙ (placed_from t 0 xs ∙ from_nothing (first_place t xs))

-- a place that passes is within the list
pub place_within : {X : Type 0} (t : X → Bool) (xs : List X) (i : ℕ) → first_place t xs ≡ Some i → i < length xs
place_within t [] i e = cc
place_within t (x ∷ xs) i e =
    elim (t x) as (λ b. cond b (Some 0) (option_map suc (first_place t xs)) ≡ Some i → i < length (x ∷ xs)) [
      | true ↦ λ h. let none : 0 ≡ i = cc in omega arith
      | false ↦ elim (first_place t xs) as (λ o. first_place t xs ≡ o → option_map suc o ≡ Some i → i < length (x ∷ xs)) [
        | None ↦ λ _ h. cc
        | Some n ↦ λ g h. let less = place_within t xs n g in let next : suc n ≡ i = cc in omega arith
      ] refl
    ] e

-- without the element at a place the list is as before in front of the place, and as after the element behind it
pub take-remove : {X : Type 0} (xs : List X) (i : ℕ) → take i (remove xs i) ≡ take i xs
take-remove [] zero = refl
take-remove [] (suc i) = refl
take-remove (x ∷ xs) zero = refl
take-remove (x ∷ xs) (suc i) = ap (λ l. x ∷ l) (take-remove xs i)

pub drop-remove : {X : Type 0} (xs : List X) (i : ℕ) → i < length xs → drop i (remove xs i) ≡ drop (suc i) xs
drop-remove [] i l = absurd (omega arith)
drop-remove (x ∷ xs) zero l = refl
drop-remove (x ∷ xs) (suc i) l = drop-remove xs i (omega arith)

map_twice : {A B C : Type 0} (f : A → B) (g : B → C) (xs : List A) → map g (map f xs) ≡ map (λ x. g (f x)) xs
map_twice f g [] = refl
map_twice f g (x ∷ xs) = ap (λ l. g (f x) ∷ l) (map_twice f g xs)

-- what is put at a place between the trees around it
abbrev pub put_at : List Placed → ℕ → List Placed → List Placed
put_at l i ps = take i l ++ (ps ++ drop (suc i) l)

behind_one : (q : Placed) (l : List Placed) (i : ℕ) (t : Step) → within (λ ps. q ∷ ps) (within (put_at l i) t) ≡ within (put_at (q ∷ l) (suc i)) t
behind_one q l i t = λ k. record { rule = t.rule; premises = map_twice (put_at l i) (λ ps. q ∷ ps) t.premises k }

module _ (at : Placed → Option Step) where
  pub first_at : (l : List Placed) (i : ℕ) (p : Placed) (t : Step) → first_place (λ q. is_some (at q)) l ≡ Some i → slice_get l i ≡ Some p → at p ≡ Some t → first_step at l ≡ Some (within (put_at l i) t)
  first_at [] i p t e g h = cc
  first_at (q ∷ l) i p t e g h =
      elim (at q) as (λ o. at q ≡ o → cond (is_some o) (Some 0) (option_map suc (first_place (λ q. is_some (at q)) l)) ≡ Some i
      → or_else (option_map (within (λ ps. ps ++ l)) o) (option_map (within (λ ps. q ∷ ps)) (first_step at l)) ≡ Some (within (put_at (q ∷ l) i) t)) [
        | Some u ↦ λ taken here.
            let front : 0 ≡ i = cc in
            let same : q ≡ p = let got : slice_get (q ∷ l) 0 ≡ Some p = subst (λ n. slice_get (q ∷ l) n ≡ Some p) (sym front) g in cc in
            let step : u ≡ t = let both : Some u ≡ Some t = sym taken ∙ (ap at same ∙ h) in cc in
            subst (λ n. Some (within (λ ps. ps ++ l) u) ≡ Some (within (put_at (q ∷ l) n) t)) front (ap (λ v. Some (within (λ ps. ps ++ l) v)) step)
        | None ↦ λ _. elim (first_place (λ q. is_some (at q)) l) as (λ o. first_place (λ q. is_some (at q)) l ≡ o → option_map suc o ≡ Some i → option_map (within (λ ps. q ∷ ps)) (first_step at l) ≡ Some (within (put_at (q ∷ l) i) t)) [
          | None ↦ λ _ h. cc
          | Some n ↦ λ placed next.
              let after : suc n ≡ i = cc in
              let got : slice_get l n ≡ Some p = subst (λ m. slice_get (q ∷ l) m ≡ Some p) (sym after) g in
              let later = first_at l n p t placed got h in
              subst (λ m. option_map (within (λ ps. q ∷ ps)) (first_step at l) ≡ Some (within (put_at (q ∷ l) m) t)) after
              (ap (option_map (within (λ ps. q ∷ ps))) later ∙ ap Some (behind_one q l n t))
        ] refl
      ] refl e

  pub first_none : (l : List Placed) → first_place (λ q. is_some (at q)) l ≡ None → first_step at l ≡ None
  first_none [] e = refl
  first_none (q ∷ l) e =
      elim (at q) as (λ o. at q ≡ o → cond (is_some o) (Some 0) (option_map suc (first_place (λ q. is_some (at q)) l)) ≡ None
      → or_else (option_map (within (λ ps. ps ++ l)) o) (option_map (within (λ ps. q ∷ ps)) (first_step at l)) ≡ None) [
        | Some u ↦ λ _ here. cc
        | None ↦ λ _. elim (first_place (λ q. is_some (at q)) l) as (λ o. first_place (λ q. is_some (at q)) l ≡ o → option_map suc o ≡ None → option_map (within (λ ps. q ∷ ps)) (first_step at l) ≡ None) [
          | None ↦ λ none _. ap (option_map (within (λ ps. q ∷ ps))) (first_none l none)
          | Some n ↦ λ _ h. cc
        ] refl
      ] refl e

-- an element at the place passes
passes_at : {X : Type 0} (t : X → Bool) (xs : List X) (i : ℕ) (x : X) → first_place t xs ≡ Some i → slice_get xs i ≡ Some x → t x ≡ true
passes_at t [] i x e g = cc
passes_at t (y ∷ xs) i x e g =
    elim (t y) as (λ b. t y ≡ b → cond b (Some 0) (option_map suc (first_place t xs)) ≡ Some i → t x ≡ true) [
      | true ↦ λ has here.
          let front : 0 ≡ i = cc in
          let same : y ≡ x = let got : slice_get (y ∷ xs) 0 ≡ Some x = subst (λ n. slice_get (y ∷ xs) n ≡ Some x) (sym front) g in cc in
          subst (λ z. t z ≡ true) same has
      | false ↦ λ _. elim (first_place t xs) as (λ o. first_place t xs ≡ o → option_map suc o ≡ Some i → t x ≡ true) [
        | None ↦ λ _ h. cc
        | Some n ↦ λ placed next.
            let after : suc n ≡ i = cc in
            passes_at t xs n x placed (subst (λ m. slice_get (y ∷ xs) m ≡ Some x) (sym after) g)
      ] refl
    ] refl e

pub passes_there : {X : Type 0} (t : X → Bool) (xs : List X) (n : ℕ) (x : X) → position t xs ≡ Some n → slice_get xs n ≡ Some x → t x ≡ true
passes_there t xs n x e g = passes_at t xs n x (sym (position_is t xs) ∙ e) g

put_removed : (l : List Placed) (n : ℕ) → n < length l → (ps : List Placed) → put_at l n ps ≡ put (remove l n) n ps
put_removed l n h ps = λ i. sym (take-remove l n) i ++ (ps ++ sym (drop-remove l n h) i)

module _ (at : Placed → Option Step) where
  -- the step at the first tree that has one, where that tree was taken out
  pub step_there : (l : List Placed) (n : ℕ) (p : Placed) (t : Step) → position (λ q. is_some (at q)) l ≡ Some n → slice_get l n ≡ Some p → at p ≡ Some t → first_step at l ≡ Some (within (put (remove l n) n) t)
  step_there l n p t e g h =
      let first = sym (position_is (λ (q : Placed). is_some (at q)) l) ∙ e in
      let inside = place_within (λ (q : Placed). is_some (at q)) l n first in
      first_at at l n p t first g h ∙ (λ i. Some (within (λ ps. put_removed l n inside ps i) t))

  pub no_step_there : (l : List Placed) → position (λ q. is_some (at q)) l ≡ None → first_step at l ≡ None
  no_step_there l e = first_none at l (sym (position_is (λ (q : Placed). is_some (at q)) l) ∙ e)

pub position_within : {X : Type 0} (t : X → Bool) (xs : List X) (n : ℕ) → position t xs ≡ Some n → n < length xs
position_within t xs n e = place_within t xs n (sym (position_is t xs) ∙ e)
