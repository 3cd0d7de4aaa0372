-- What stands at a place of a list.
use Rattle.std.proofs.Common.{◌≡◌, ℕ, ◌+◌, ◌≤◌, List, [], ◌∷◌, ◌++◌, length, map, take, refl, sym, ap, ◌∙◌, inl, inr, arith, length-append}
use Rattle.std.specs.Prelude.{Some, None, slice_get}
use Rattle.std.proofs.Math.ListN.{get_or-append}
use Rattle.std.proofs.lemmas.List.{map_push, take_more, take_all}
use Rattle.std.proofs.lemmas.Option.{slice_get_within, slice_get-get_or, slice_get_cases, get_or_from_slice_get}

-- it stays there where the list goes on
pub stays_there : {A : Type 0} (xs ys : List A) (i : ℕ) (a : A) → slice_get xs i ≡ Some a → slice_get (xs ++ ys) i ≡ Some a
stays_there xs ys i a is =
    let within = slice_get_within xs i a is in
    slice_get-get_or (xs ++ ys) i a (omega (arith, length-append xs ys)) ∙ ap Some (get_or-append xs ys a i within ∙ get_or_from_slice_get xs i a a is)

-- behind a list stands what comes next
pub stands_next : {A : Type 0} (xs : List A) (a : A) → slice_get (xs ++ a ∷ []) (length xs) ≡ Some a
stands_next [] a = refl
stands_next (x ∷ xs) a = stands_next xs a

-- what was found for the first members of a list, and then for the next one
module _ {A B : Type 0} (f : A → B) (xs : List A) (ys : List B) (n : ℕ) (so_far : ys ≡ map f (take n xs)) where
  pub found_next : (m : ℕ) (x : A) (y : B) → m ≡ n + 1 → slice_get xs n ≡ Some x → y ≡ f x → ys ++ y ∷ [] ≡ map f (take m xs)
  found_next m x y more there is =
      (λ i. so_far i ++ is i ∷ [])
      ∙ (sym (map_push f (take n xs) x)
      ∙ (ap (map f) (ap (λ z. take n xs ++ z ∷ []) (sym (get_or_from_slice_get xs n x x there)) ∙ sym (take_more xs n x (slice_get_within xs n x there)))
      ∙ ap (λ (k : ℕ). map f (take k xs)) (sym more)))

  -- where no next one is there, it was found for all
  pub found_all : slice_get xs n ≡ None → ys ≡ map f xs
  found_all none = elim (slice_get_cases xs n).1 [
    | inl there ↦ let some = sym none ∙ there.2 in cc
    | inr past ↦ so_far ∙ ap (map f) (take_all n xs (let at = past.0 in omega arith))
  ]
