-- Tests of the clauses that are kept, one after another.
use Rattle.std.proofs.Common.{◌≡◌, ◌<◌, ℕ, suc, Bool, true, false, not, ◌||◌, cond, List, [], ◌∷◌, ◌++◌, length, get_or, drop, filter, refl, sym, ap, ◌∙◌, drop-cons}
use Rattle.std.specs.List.{list_any}
use Rattle.std.proofs.lemmas.Bool.{or_parts}

-- the next one of a list

append_none : {X : Type 0} (xs : List X) → xs ++ [] ≡ xs
append_none [] = refl
append_none (x ∷ xs) = ap (λ ys. x ∷ ys) (append_none xs)

module _ {X : Type 0} (p : X → Bool) where
  pub next_found : (xs : List X) (k : ℕ) (x : X) (b : Bool) → k < length xs → x ≡ get_or xs k x → b ≡ p x → b ≡ true → list_any p (drop k xs) ≡ true
  next_found xs k x b below is tested met =
      let front : drop k xs ≡ x ∷ drop (suc k) xs = drop-cons xs k x below ∙ ap (λ y. y ∷ drop (suc k) xs) (sym is) in
      ap (list_any p) front ∙ ap (λ a. a || list_any p (drop (suc k) xs)) (sym tested ∙ met)

  pub next_not_found : (xs : List X) (k : ℕ) (x : X) (b : Bool) → k < length xs → x ≡ get_or xs k x → b ≡ p x → b ≡ false → list_any p (drop k xs) ≡ list_any p (drop (suc k) xs)
  next_not_found xs k x b below is tested unmet =
      let front : drop k xs ≡ x ∷ drop (suc k) xs = drop-cons xs k x below ∙ ap (λ y. y ∷ drop (suc k) xs) (sym is) in
      ap (list_any p) front ∙ ap (λ a. a || list_any p (drop (suc k) xs)) (sym tested ∙ unmet)

  only : (x : X) (b : Bool) → p x ≡ b → filter p (x ∷ []) ≡ cond b (x ∷ []) []
  only x b e = ap (λ a. cond a (x ∷ []) []) e

  -- a further one is filtered
  pub kept_alone : (xs : List X) (x : X) → p x ≡ true → xs ++ x ∷ [] ≡ xs ++ filter p (x ∷ [])
  kept_alone xs x e = ap (λ ys. xs ++ ys) (sym (only x true e))

  pub gone : (xs : List X) (x : X) → p x ≡ false → xs ≡ xs ++ filter p (x ∷ [])
  gone xs x e = sym (append_none xs) ∙ ap (λ ys. xs ++ ys) (sym (only x false e))

  -- none goes where none is met
  pub none_gone : (xs : List X) → list_any p xs ≡ false → filter (λ x. not (p x)) xs ≡ xs
  none_gone [] e = refl
  none_gone (x ∷ xs) e =
      let parts = or_parts (p x) (list_any p xs) e in
      ap (λ b. cond (not b) (x ∷ filter (λ y. not (p y)) xs) (filter (λ y. not (p y)) xs)) parts.0 ∙ ap (λ ys. x ∷ ys) (none_gone xs parts.1)
