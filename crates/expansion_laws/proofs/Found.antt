-- The first element of a list that passes a test.
use Rattle.std.proofs.Common.{◌≡◌, ℕ, zero, suc, ◌+◌, ◌<◌, ◌≤◌, Bool, true, false, ◌||◌, cond, List, [], ◌∷◌, map, refl, sym, ap, ◌∙◌, arith}
use Rattle.std.specs.Prelude.{Some, None}
use Rattle.std.specs.Option.{option_map}
use Rattle.std.specs.List.{find, list_any, range_with_len}
use Rattle.search_laws.proofs.Tests.{split, clash}

module _ {X : Type 0} where
  -- what is found passes
  pub found_passes : (p : X → Bool) (xs : List X) (x : X) → find p xs ≡ Some x → p x ≡ true
  found_passes p [] x e = cc
  found_passes p (y ∷ ys) x e =
      elim (p y) as (λ b. p y ≡ b → cond b (Some y) (find p ys) ≡ Some x → p x ≡ true) [
        | true ↦ λ k e. let same : y ≡ x = cc in sym (ap p same) ∙ k
        | false ↦ λ k e. found_passes p ys x e
      ] refl e

  -- where an element passes, one is found
  pub some_found : (p : X → Bool) (xs : List X) → list_any p xs ≡ true → (x : X) × (find p xs ≡ Some x)
  some_found p [] e = cc
  some_found p (y ∷ ys) e =
      elim (p y) as (λ b. (b || list_any p ys) ≡ true → (x : X) × (cond b (Some y) (find p ys) ≡ Some x)) [
        | true ↦ λ e. (y, refl)
        | false ↦ λ e. some_found p ys e
      ] e

  -- where none passes, none is found
  pub none_found : (p : X → Bool) (xs : List X) → list_any p xs ≡ false → find p xs ≡ None
  none_found p [] e = refl
  none_found p (y ∷ ys) e =
      elim (p y) as (λ b. (b || list_any p ys) ≡ false → cond b (Some y) (find p ys) ≡ None) [
        | true ↦ λ e. cc
        | false ↦ λ e. none_found p ys e
      ] e

  -- where none is found, none passes
  pub none_passes : (p : X → Bool) (xs : List X) → find p xs ≡ None → list_any p xs ≡ false
  none_passes p [] e = refl
  none_passes p (y ∷ ys) e =
      elim (p y) as (λ b. cond b (Some y) (find p ys) ≡ None → (b || list_any p ys) ≡ false) [
        | true ↦ λ e. cc
        | false ↦ λ e. none_passes p ys e
      ] e

-- the first of the images is the image of the first
pub found_map : {X Y : Type 0} (f : X → Y) (p : Y → Bool) (xs : List X) → find p (map f xs) ≡ option_map f (find (λ x. p (f x)) xs)
found_map f p [] = refl
found_map f p (x ∷ xs) =
    elim (p (f x)) as (λ b. cond b (Some (f x)) (find p (map f xs)) ≡ option_map f (cond b (Some x) (find (λ y. p (f y)) xs))) [
      | true ↦ refl
      | false ↦ found_map f p xs
    ]

pub any_map : {X Y : Type 0} (f : X → Y) (p : Y → Bool) (xs : List X) → list_any p (map f xs) ≡ list_any (λ x. p (f x)) xs
any_map f p [] = refl
any_map f p (x ∷ xs) = ap (λ b. p (f x) || b) (any_map f p xs)

-- some number from a on, of n, passes
pub any_number : (p : ℕ → Bool) (a n : ℕ) → list_any p (range_with_len a n) ≡ true → (i : ℕ) × (a ≤ i) × (i < a + n) × (p i ≡ true)
any_number p a zero e = cc
any_number p a (suc n) e =
    split (p a)
    (λ here. (a, omega arith, omega arith, here))
    (λ not_here.
    let rest : list_any p (range_with_len (a + 1) n) ≡ true = sym (ap (λ b. b || list_any p (range_with_len (a + 1) n)) not_here) ∙ e in
    let r = any_number p (a + 1) n rest in
    (r.0, omega arith, omega arith, r.3))

-- a number that passes is among them
pub number_passes : (p : ℕ → Bool) (a n i : ℕ) → a ≤ i → i < a + n → p i ≡ true → list_any p (range_with_len a n) ≡ true
number_passes p a zero i low high e = absurd (omega arith)
number_passes p a (suc n) i low high e =
    split (p a)
    (λ here. ap (λ b. b || list_any p (range_with_len (a + 1) n)) here)
    (λ not_here.
    let apart : (a ≡ i) → ⊥ = λ k. clash (p a) (ap p k ∙ e) not_here in
    ap (λ b. b || list_any p (range_with_len (a + 1) n)) not_here ∙ number_passes p (a + 1) n i (omega (arith, apart)) (omega arith) e)

-- a number that passes, where none before it does, is found
pub first_is : (p : ℕ → Bool) (a n i : ℕ) → a ≤ i → i < a + n → p i ≡ true → ((k : ℕ) → a ≤ k → k < i → p k ≡ false) → find p (range_with_len a n) ≡ Some i
first_is p a zero i low high e before = absurd (omega arith)
first_is p a (suc n) i low high e before =
    split (p a)
    (λ here.
    let not_less : (a < i) → ⊥ = λ less. clash (p a) here (before a (omega arith) less) in
    let same : a ≡ i = omega (arith, not_less) in
    ap (λ b. cond b (Some a) (find p (range_with_len (a + 1) n))) here ∙ ap Some same)
    (λ not_here.
    let apart : (a ≡ i) → ⊥ = λ k. clash (p a) (ap p k ∙ e) not_here in
    ap (λ b. cond b (Some a) (find p (range_with_len (a + 1) n))) not_here
    ∙ first_is p (a + 1) n i (omega (arith, apart)) (omega arith) e (λ k up down. before k (omega arith) down))

-- what is found is one of the numbers
pub found_within : (p : ℕ → Bool) (a n i : ℕ) → find p (range_with_len a n) ≡ Some i → i < a + n
found_within p a zero i e = cc
found_within p a (suc n) i e =
    elim (p a) as (λ b. cond b (Some a) (find p (range_with_len (a + 1) n)) ≡ Some i → i < a + suc n) [
      | true ↦ λ e. let same : a ≡ i = cc in omega arith
      | false ↦ λ e. let within = found_within p (a + 1) n i e in omega arith
    ] e

-- where no number passes, none is found
pub no_number : (p : ℕ → Bool) (a n : ℕ) → ((k : ℕ) → a ≤ k → k < a + n → p k ≡ false) → find p (range_with_len a n) ≡ None
no_number p a zero none = refl
no_number p a (suc n) none =
    ap (λ b. cond b (Some a) (find p (range_with_len (a + 1) n))) (none a (omega arith) (omega arith))
    ∙ no_number p (a + 1) n (λ k low high. none k (omega arith) (omega arith))

-- tests that agree on the numbers have the same first one
pub same_first : (p q : ℕ → Bool) (a n : ℕ) → ((i : ℕ) → a ≤ i → i < a + n → p i ≡ q i) → find p (range_with_len a n) ≡ find q (range_with_len a n)
same_first p q a zero same = refl
same_first p q a (suc n) same =
    (λ i. cond (same a (omega arith) (omega arith) i) (Some a) (same_first p q (a + 1) n (λ k low high. same k (omega arith) (omega arith)) i))

pub same_any : (p q : ℕ → Bool) (a n : ℕ) → ((i : ℕ) → a ≤ i → i < a + n → p i ≡ q i) → list_any p (range_with_len a n) ≡ list_any q (range_with_len a n)
same_any p q a zero same = refl
same_any p q a (suc n) same =
    (λ i. same a (omega arith) (omega arith) i || same_any p q (a + 1) n (λ k low high. same k (omega arith) (omega arith)) i)
