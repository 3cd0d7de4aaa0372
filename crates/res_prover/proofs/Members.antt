-- Members of lists: at a place, of a mapped list, of a filtered one.
use Rattle.std.proofs.Common.{◌≡◌, ℕ, zero, suc, ◌+◌, ◌<◌, Bool, true, false, ◌||◌, cond, List, [], ◌∷◌, ◌++◌, map, filter, length, get_or, take, refl, sym, ap, subst, ◌∙◌, arith}
use Rattle.std.specs.Prelude.{Contains}
use Rattle.std.specs.List.{All, list_any}
use Rattle.std.proofs.Math.Seq.{take-length}
use Rattle.std.proofs.lemmas.List.{take_more}
use Rattle.clause_laws.proofs.Lists.{from_map}

pub at_any : {X : Type 0} (xs : List X) (k : ℕ) (d e : X) → k < length xs → get_or xs k d ≡ get_or xs k e
at_any [] k d e below = absurd (omega arith)
at_any (x ∷ xs) zero d e below = refl
at_any (x ∷ xs) (suc k) d e below = at_any xs k d e (omega arith)

pub at_place : {X : Type 0} (xs : List X) (k : ℕ) (x d : X) → k < length xs → x ≡ get_or xs k x → get_or xs k d ≡ x
at_place xs k x d below is = at_any xs k d x below ∙ sym is

pub has_place : {X : Type 0} (xs : List X) (k : ℕ) (x : X) → k < length xs → x ≡ get_or xs k x → Contains xs x
has_place xs k x below is = (k, below, sym is)

-- the first elements, and one more

pub next_taken : {X : Type 0} (xs : List X) (k : ℕ) (x : X) → k < length xs → x ≡ get_or xs k x → take (k + 1) xs ≡ take k xs ++ x ∷ []
next_taken xs k x below is = take_more xs k x below ∙ ap (λ y. take k xs ++ y ∷ []) (sym is)

pub all_taken : {X : Type 0} (xs : List X) (k : ℕ) → k ≡ length xs → take k xs ≡ xs
all_taken xs k e = ap (λ n. take n xs) e ∙ take-length xs

module _ {X Y : Type 0} (f : X → Y) where
  pub at_map : (xs : List X) (k : ℕ) (x : X) (d : Y) → k < length xs → x ≡ get_or xs k x → get_or (map f xs) k d ≡ f x
  at_map [] k x d below is = absurd (omega arith)
  at_map (y ∷ xs) zero x d below is = ap f (sym is)
  at_map (y ∷ xs) (suc k) x d below is = at_map xs k x d (omega arith) is

  pub many_mapped : (xs : List X) → length (map f xs) ≡ length xs
  many_mapped [] = refl
  many_mapped (x ∷ xs) = ap suc (many_mapped xs)

  pub next_mapped : (xs : List X) (k : ℕ) (x : X) → k < length xs → x ≡ get_or xs k x → take (k + 1) (map f xs) ≡ take k (map f xs) ++ f x ∷ []
  next_mapped xs k x below is =
      let many = many_mapped xs in
      take_more (map f xs) k (f x) (omega (arith, below, many)) ∙ ap (λ y. take k (map f xs) ++ y ∷ []) (at_map xs k x (f x) below is)

  pub any-mapped : (p : Y → Bool) (xs : List X) → list_any p (map f xs) ≡ list_any (λ x. p (f x)) xs
  any-mapped p [] = refl
  any-mapped p (x ∷ xs) = ap (λ b. p (f x) || b) (any-mapped p xs)

  mapped_if : (x : X) (xs : List X) (b : Bool) → map f (cond b (x ∷ xs) xs) ≡ cond b (f x ∷ map f xs) (map f xs)
  mapped_if x xs true = refl
  mapped_if x xs false = refl

  pub mapped-filter : (p : Y → Bool) (xs : List X) → map f (filter (λ x. p (f x)) xs) ≡ filter p (map f xs)
  mapped-filter p [] = refl
  mapped-filter p (x ∷ xs) =
      mapped_if x (filter (λ y. p (f y)) xs) (p (f x)) ∙ ap (λ ys. cond (p (f x)) (f x ∷ ys) ys) (mapped-filter p xs)

  pub all_mapped : (xs : List X) (k : ℕ) → k ≡ length xs → take k (map f xs) ≡ map f xs
  all_mapped xs k e = all_taken (map f xs) k (e ∙ sym (many_mapped xs))

  -- what holds of each member of a mapped list
  pub mapped_place : (P : Y → Type 0) (xs : List X) (k : ℕ) (x : X) → All P (map f xs) → k < length xs → x ≡ get_or xs k x → P (f x)
  mapped_place P xs k x h below is =
      let many = many_mapped xs in
      subst P (at_map xs k x (f x) below is) (h k (f x) (omega (arith, below, many)))

  -- no member becomes y
  pub none_mapped : (xs : List X) (y : Y) → ((k : ℕ) (d : X) → k < length xs → f (get_or xs k d) ≡ y → ⊥) → Contains (map f xs) y → ⊥
  none_mapped xs y none = from_map f xs y (λ x at is. none at.0 x at.1 (ap f at.2 ∙ is))
