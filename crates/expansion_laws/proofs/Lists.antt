-- Tests of lists, and of sets that have the formulas of a list.
use Rattle.std.proofs.Common.{◌≡◌, ◌+◌, ◌<◌, Bool, true, false, not, ◌&&◌, ◌||◌, cond, List, [], ◌∷◌, filter, length, refl, sym, ap, ◌∙◌, arith}
use Rattle.std.specs.List.{list_all, list_any}
use Rattle.fol.specs.Syntax.{Formula}
use Rattle.fol.specs.Order.{formula_cmp}
use Rattle.finite.specs.Finite as set
use Rattle.finite.proofs.Finite.{has-empty}
use Rattle.proof_trees.proofs.Booleans.{or_first, or_second, either}
use Rattle.search_laws.proofs.Tests.{clash, not-or}
use Rattle.search_laws.proofs.Listed.{members_pass, all-adds_each}

-- a set that has just the formulas of a list passes exactly where the list does
pub all-set_of : (p : Formula → Bool) (fs : List Formula) → list_all p (set.listing (set.adds_each (set.empty {R = formula_cmp}) fs)) ≡ list_all p fs
all-set_of p fs =
    all-adds_each p set.empty fs
    ∙ ap (λ b. b && list_all p fs) (members_pass p set.empty (λ f m. clash (set.has (set.empty {R = formula_cmp}) f) m (has-empty formula_cmp f)))

module _ {V : Type 0} where
  -- no element passes exactly where each fails
  pub not-any : (p : V → Bool) (xs : List V) → not (list_any p xs) ≡ list_all (λ v. not (p v)) xs
  not-any p [] = refl
  not-any p (v ∷ vs) = not-or (p v) (list_any p vs) ∙ ap (λ b. not (p v) && b) (not-any p vs)

  -- what follows from one element that passes follows where some element does
  pub some_passes : {P : Type 0} (p : V → Bool) (xs : List V) → ((v : V) → p v ≡ true → P) → list_any p xs ≡ true → P
  some_passes p [] f e = cc
  some_passes p (v ∷ vs) f e = either (p v) (list_any p vs) (f v) (some_passes p vs f) e

  -- where an element that is in the list passes, some element of the list does
  pub any_of : (eq : V → V → Bool) → ((v w : V) → eq v w ≡ true → v ≡ w) → (p : V → Bool) (xs : List V) (v : V) → list_any (eq v) xs ≡ true → p v ≡ true → list_any p xs ≡ true
  any_of eq same p [] v m e = cc
  any_of eq same p (w ∷ ws) v m e =
      either (eq v w) (list_any (eq v) ws)
      (λ here. or_first (p w) (list_any p ws) (ap p (sym (same v w here)) ∙ e))
      (λ later. or_second (p w) (list_any p ws) (any_of eq same p ws v later e))
      m

  -- a part of a list is not longer
  shorter_or_same : (p : V → Bool) (xs : List V) → length (filter p xs) < length xs + 1
  shorter_or_same p [] = omega arith
  shorter_or_same p (v ∷ vs) =
      let others = shorter_or_same p vs in
      elim (p v) as (λ b. length (cond b (v ∷ filter p vs) (filter p vs)) < length (v ∷ vs) + 1) [
        | true ↦ let here : length (v ∷ filter p vs) < length (v ∷ vs) + 1 = omega arith in here
        | false ↦ let here : length (filter p vs) < length (v ∷ vs) + 1 = omega arith in here
      ]

  -- a part from which some element is missing is shorter
  pub shorter : (p : V → Bool) (xs : List V) → list_any (λ v. not (p v)) xs ≡ true → length (filter p xs) < length xs
  shorter p [] e = cc
  shorter p (v ∷ vs) e =
      elim (p v) as (λ b. (not b || list_any (λ w. not (p w)) vs) ≡ true → length (cond b (v ∷ filter p vs) (filter p vs)) < length (v ∷ vs)) [
        | true ↦ λ later. let others = shorter p vs later in let here : length (v ∷ filter p vs) < length (v ∷ vs) = omega arith in here
        | false ↦ λ _. let others = shorter_or_same p vs in let here : length (filter p vs) < length (v ∷ vs) = omega arith in here
      ] e
