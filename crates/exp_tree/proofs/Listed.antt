-- Lists without repeats, in which an element is found by a test of equality.
use Rattle.std.proofs.Common.{◌≡◌, ℕ, ◌+◌, zero, suc, Bool, true, false, ◌||◌, ◌⊎◌, List, [], ◌∷◌, ◌++◌, length, cond, refl, sym, ap, ◌∙◌, inl, inr, append_assoc, append-nil, arith}
use Rattle.std.specs.Prelude.{Some, slice_get, not}
use Rattle.std.specs.Bool.{Decides}
use Rattle.std.specs.List.{list_any, position_or_len}
use Rattle.indexmap.specs.IndexSet.{insert_key, insert_all}

pub some_same : {X : Type 0} (x y : X) → Some x ≡ Some y → x ≡ y
some_same x y h = cc

-- what stands in a list stands in a longer one at the same place
pub get_left : {X : Type 0} (xs ys : List X) (i : ℕ) (x : X) → slice_get xs i ≡ Some x → slice_get (xs ++ ys) i ≡ Some x
get_left [] ys i x h = cc
get_left (y ∷ xs) ys zero x h = h
get_left (y ∷ xs) ys (suc i) x h = get_left xs ys i x h

pub get_last : {X : Type 0} (xs : List X) (x : X) → slice_get (xs ++ x ∷ []) (length xs) ≡ Some x
get_last [] x = refl
get_last (y ∷ xs) x = get_last xs x

-- what stands in a list with one more at its end stood there, or is the new one
pub get_cases : {X : Type 0} (xs : List X) (x : X) (i : ℕ) (y : X) → slice_get (xs ++ x ∷ []) i ≡ Some y → (slice_get xs i ≡ Some y) ⊎ ((i ≡ length xs) × (x ≡ y))
get_cases [] x zero y h = inr (refl, some_same x y h)
get_cases [] x (suc i) y h = cc
get_cases (z ∷ xs) x zero y h = inl h
get_cases (z ∷ xs) x (suc i) y h = elim (get_cases xs x i y h) [
  | inl before ↦ inl before
  | inr new ↦ inr (ap suc new.0, new.1)
]

module _ {X : Type 0} (same : X → X → Bool) (decides : (x y : X) → Decides (same x y) (x ≡ y)) where
  pub any_of : (xs : List X) (x : X) (i : ℕ) → slice_get xs i ≡ Some x → list_any (same x) xs ≡ true
  any_of [] x i h = cc
  any_of (y ∷ xs) x zero h = ap (λ b. b || list_any (same x) xs) ((decides x y).1 (sym (some_same y x h)))
  any_of (y ∷ xs) x (suc i) h = by (same x y) (any_of xs x i h)
    where
      by : (b : Bool) → list_any (same x) xs ≡ true → (b || list_any (same x) xs) ≡ true
      by true k = refl
      by false k = k

  pub none_of : (xs : List X) (x : X) → ((i : ℕ) → slice_get xs i ≡ Some x → ⊥) → list_any (same x) xs ≡ false
  none_of [] x h = refl
  none_of (y ∷ xs) x h = by (same x y) refl (none_of xs x (λ i there. h (suc i) there))
    where
      by : (b : Bool) → same x y ≡ b → list_any (same x) xs ≡ false → (same x y || list_any (same x) xs) ≡ false
      by true is k = absurd (h 0 (ap Some (sym ((decides x y).0 is))))
      by false is k = ap (λ b. b || list_any (same x) xs) is ∙ k

  pub key_there : (xs : List X) (x : X) (i : ℕ) → slice_get xs i ≡ Some x → insert_key same xs x ≡ xs
  key_there xs x i h = ap (λ b. cond b xs (xs ++ x ∷ [])) (any_of xs x i h)

  pub key_new : (xs : List X) (x : X) → ((i : ℕ) → slice_get xs i ≡ Some x → ⊥) → insert_key same xs x ≡ xs ++ x ∷ []
  key_new xs x h = ap (λ b. cond b xs (xs ++ x ∷ [])) (none_of xs x h)

  pub all-append : (xs ys zs : List X) → insert_all same xs (ys ++ zs) ≡ insert_all same (insert_all same xs ys) zs
  all-append xs [] zs = refl
  all-append xs (y ∷ ys) zs = all-append (insert_key same xs y) ys zs

  key_grows : (xs : List X) (x : X) (b : Bool) → (more : List X) × (cond b xs (xs ++ x ∷ []) ≡ xs ++ more)
  key_grows xs x true = ([], sym (append-nil xs))
  key_grows xs x false = (x ∷ [], refl)

  -- a list to which elements are added begins with the list
  pub grows : (xs ys : List X) → (more : List X) × (insert_all same xs ys ≡ xs ++ more)
  grows xs [] = ([], sym (append-nil xs))
  grows xs (y ∷ ys) =
      let first = key_grows xs y (list_any (same y) xs) in
      let later = grows (insert_key same xs y) ys in
      (first.0 ++ later.0, later.1 ∙ ap (λ zs. zs ++ later.0) first.1 ∙ append_assoc xs first.0 later.0)

  -- an element of a list without repeats is found at its place
  pub place_at : (xs : List X) (x : X) (i : ℕ) → ((j k : ℕ) (y : X) → slice_get xs j ≡ Some y → slice_get xs k ≡ Some y → j ≡ k) → slice_get xs i ≡ Some x
      → position_or_len (same x) xs ≡ i
  place_at [] x i apart h = cc
  place_at (y ∷ xs) x zero apart h = ap (λ b. cond (not b) (1 + position_or_len (same x) xs) 0) ((decides x y).1 (sym (some_same y x h)))
  place_at (y ∷ xs) x (suc i) apart h = by (same x y) refl (place_at xs x i (λ j k z at_j at_k. let next = apart (suc j) (suc k) z at_j at_k in cc) h)
    where
      by : (b : Bool) → same x y ≡ b → position_or_len (same x) xs ≡ i → position_or_len (same x) (y ∷ xs) ≡ suc i
      by true is k = let first = apart 0 (suc i) x (ap Some (sym ((decides x y).0 is))) h in cc
      by false is k = ap (λ b. cond (not b) (1 + position_or_len (same x) xs) 0) is ∙ (let next : 1 + position_or_len (same x) xs ≡ suc i = omega (arith, k) in next)
