-- What holds of each element of two lists in a row, and where a number stands in a list that was written to.
use Rattle.std.proofs.Common.{◌≡◌, ℕ, ◌<◌, ⊎_elim, List, [], ◌∷◌, ◌++◌, length, sym, ap, subst, ◌∙◌}
use Rattle.std.specs.Prelude.{slice_set}
use Rattle.std.specs.List.{All, AllByRecursion}
use Rattle.std.proofs.lemmas.List.{get_or-set_same, get_or-set_other}
use Rattle.std.proofs.lemmas.List.Elements.{All-from_recursion, recursion_from_All}
use Rattle.std.proofs.lemmas.Bool.{cases_eq}
use Rattle.fol_unify.specs.Classes.{next}

module _ {X : Type 0} (P : X → Type 0) where
  front_each : (xs ys : List X) → AllByRecursion P (xs ++ ys) → AllByRecursion P xs
  front_each [] ys h = tt
  front_each (x ∷ xs) ys h = (h.0, front_each xs ys h.1)

  back_each : (xs ys : List X) → AllByRecursion P (xs ++ ys) → AllByRecursion P ys
  back_each [] ys h = h
  back_each (x ∷ xs) ys h = back_each xs ys h.1

  pub All-front : (xs ys : List X) → All P (xs ++ ys) → All P xs
  All-front xs ys h = All-from_recursion P xs (front_each xs ys (recursion_from_All P (xs ++ ys) h))

  pub All-back : (xs ys : List X) → All P (xs ++ ys) → All P ys
  All-back xs ys h = All-from_recursion P ys (back_each xs ys (recursion_from_All P (xs ++ ys) h))

  pub All-one : (xs : List X) (x : X) → All P (xs ++ x ∷ []) → P x
  All-one xs x h = (recursion_from_All P (x ∷ []) (All-back xs (x ∷ []) h)).0

-- where a number leads, after a write
pub next_written : (ls : List ℕ) (m v : ℕ) → m < length ls → (P : ℕ → Type 0) (n : ℕ) → (n ≡ m → P v) → ((n ≡ m → ⊥) → P (next ls n)) → P (next (slice_set ls m v) n)
next_written ls m v below P n own others =
    ⊎_elim {C = P (next (slice_set ls m v) n)}
    (λ e. subst P (sym (ap (next (slice_set ls m v)) e ∙ get_or-set_same ls m v 0 below)) (own e))
    (λ apart. subst P (sym (get_or-set_other ls m n v 0 apart)) (others apart))
    (cases_eq n m)
