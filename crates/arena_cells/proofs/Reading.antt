-- Reading a list at a place.
use Rattle.std.proofs.Common.{◌≡◌, ℕ, zero, suc, ◌⊎◌, List, [], ◌∷◌, ◌++◌, length, refl, ap, inl, inr}
use Rattle.std.specs.Prelude.{Option, Some, None, Result, Ok, Err, IfOk, IsNone, IfSome, slice_get}

module _ {X : Type 0} where
  pub some_same : (x y : X) → Some x ≡ Some y → x ≡ y
  some_same x y h = cc

  pub none_is : (o : Option X) → IsNone o → o ≡ None
  none_is None h = refl
  none_is (Some x) h = cc

  pub if_some : (o : Option X) (P : X → Type 0) → ((x : X) → o ≡ Some x → P x) → IfSome o P
  if_some None P h = tt
  if_some (Some x) P h = h x refl

  pub if_ok : {E : Type 0} (r : Result X E) (P Q : X → Type 0) → ((x : X) → P x → Q x) → IfOk r P → IfOk r Q
  if_ok (Ok x) P Q f h = f x h
  if_ok (Err e) P Q f h = tt

  pub get_old : (xs ys : List X) (n : ℕ) (x : X) → slice_get xs n ≡ Some x → slice_get (xs ++ ys) n ≡ Some x
  get_old [] ys n x h = cc
  get_old (y ∷ xs) ys zero x h = h
  get_old (y ∷ xs) ys (suc n) x h = get_old xs ys n x h

  pub get_new : (xs : List X) (x : X) → slice_get (xs ++ x ∷ []) (length xs) ≡ Some x
  get_new [] x = refl
  get_new (y ∷ xs) x = get_new xs x

  -- what stands in a list with one more element is what stood there, or that element
  pub get_split : (xs : List X) (x y : X) (n : ℕ) → slice_get (xs ++ x ∷ []) n ≡ Some y → (slice_get xs n ≡ Some y) ⊎ ((n ≡ length xs) × (x ≡ y))
  get_split [] x y zero h = inr (refl, some_same x y h)
  get_split [] x y (suc n) h = cc
  get_split (z ∷ xs) x y zero h = inl h
  get_split (z ∷ xs) x y (suc n) h = elim (get_split xs x y n h) [
    | inl old ↦ inl old
    | inr new ↦ inr (ap suc new.0, new.1)
  ]
