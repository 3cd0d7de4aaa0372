-- Places that have a variable.
use Rattle.std.proofs.Common.{◌≡◌, ℕ, suc, ◌+◌, Bool, true, false, ◌||◌, cond, List, [], ◌∷◌, ◌++◌, length, Some, None, is_some, refl, sym, ap, ◌∙◌, arith}
use Rattle.std.specs.Prelude.{nat_eq, if◌then◌else◌, not}
use Rattle.std.specs.List.{list_any, position_or_len}
use Rattle.std.proofs.lemmas.Bool.{eq-eqb, eqb-true, eqb-false}
use Rattle.std.proofs.lemmas.List.Folds.{list_any-append}
use Rattle.fol.specs.declared.symbols.Var.{Var}
use Rattle.fol.specs.Syntax.{free}
use Rattle.extraction_laws.specs.States.{nth_outside}
use Rattle.exp_extract.specs.Names.{variable_in}

-- nothing passes where the place is the length
pub place_past : {X : Type 0} (p : X → Bool) (xs : List X) → list_any p xs ≡ false → position_or_len p xs ≡ length xs
place_past p [] h = refl
place_past p (x ∷ xs) h =
    elim (p x) as (λ b. (b || list_any p xs) ≡ false → cond (not b) (1 + position_or_len p xs) 0 ≡ suc (length xs)) [
      | true ↦ λ e. cc
      | false ↦ λ e. let same = place_past p xs e in omega arith
    ] h

place_before : {X : Type 0} (p : X → Bool) (xs ys : List X) → list_any p xs ≡ true → position_or_len p (xs ++ ys) ≡ position_or_len p xs
place_before p [] ys h = cc
place_before p (x ∷ xs) ys h =
    elim (p x) as (λ b. (b || list_any p xs) ≡ true → cond (not b) (1 + position_or_len p (xs ++ ys)) 0 ≡ cond (not b) (1 + position_or_len p xs) 0) [
      | true ↦ λ e. refl
      | false ↦ λ e. ap (λ n. 1 + n) (place_before p xs ys e)
    ] h

-- a place that is found without a variable has the next one
pub without_variable : (vs : List Var) (ns : List ℕ) (q : ℕ) → variable_in vs ns q ≡ None → position_or_len (nat_eq q) ns ≡ length ns
without_variable vs ns q =
    elim (list_any (nat_eq q) ns) as (λ b. list_any (nat_eq q) ns ≡ b → (if b then Some (free (nth_outside vs (position_or_len (nat_eq q) ns))) else None) ≡ None → position_or_len (nat_eq q) ns ≡ length ns) [
      | true ↦ λ _ e. absurd (cc)
      | false ↦ λ h _. place_past (nat_eq q) ns h
    ] refl

or-false : (a : Bool) → (a || false) ≡ a
or-false true = refl
or-false false = refl

-- with one more place: it has the next variable, and the others what they had
module _ (vs : List Var) (ns : List ℕ) (p : ℕ) (absent : list_any (nat_eq p) ns ≡ false) where
  own_variable : variable_in vs (ns ++ p ∷ []) p ≡ Some (free (nth_outside vs (length ns)))
  own_variable =
      let there : list_any (nat_eq p) (ns ++ p ∷ []) ≡ true = list_any-append (nat_eq p) ns (p ∷ []) ∙ ap (λ b. list_any (nat_eq p) ns || (b || false)) (eq-eqb p p refl) ∙ ap (λ b. b || true) absent in
      ap (λ b. if b then Some (free (nth_outside vs (position_or_len (nat_eq p) (ns ++ p ∷ [])))) else None) there
      ∙ ap (λ n. Some (free (nth_outside vs n))) (place_at_end ns absent)
    where
      place_at_end : (xs : List ℕ) → list_any (nat_eq p) xs ≡ false → position_or_len (nat_eq p) (xs ++ p ∷ []) ≡ length xs
      place_at_end [] h = ap (λ b. cond (not b) (1 + 0) 0) (eq-eqb p p refl)
      place_at_end (x ∷ xs) h =
          elim (nat_eq p x) as (λ b. (b || list_any (nat_eq p) xs) ≡ false → cond (not b) (1 + position_or_len (nat_eq p) (xs ++ p ∷ [])) 0 ≡ suc (length xs)) [
            | true ↦ λ e. cc
            | false ↦ λ e. let same = place_at_end xs e in omega arith
          ] h

  other_variable : (q : ℕ) → nat_eq p q ≡ false → variable_in vs (ns ++ p ∷ []) q ≡ variable_in vs ns q
  other_variable q apart =
      let turned : nat_eq q p ≡ false = elim (nat_eq q p) as (λ b. nat_eq q p ≡ b → b ≡ false) [
        | true ↦ λ e. absurd (eqb-false p q apart (sym (eqb-true q p e)))
        | false ↦ λ e. refl
      ] refl in
      let same : list_any (nat_eq q) (ns ++ p ∷ []) ≡ list_any (nat_eq q) ns = list_any-append (nat_eq q) ns (p ∷ []) ∙ ap (λ b. list_any (nat_eq q) ns || (b || false)) turned ∙ or-false _ in
      elim (list_any (nat_eq q) ns) as (λ b. list_any (nat_eq q) ns ≡ b → variable_in vs (ns ++ p ∷ []) q ≡ (if b then Some (free (nth_outside vs (position_or_len (nat_eq q) ns))) else None)) [
        | true ↦ λ h. ap (λ b. if b then Some (free (nth_outside vs (position_or_len (nat_eq q) (ns ++ p ∷ [])))) else None) (same ∙ h)
            ∙ ap (λ n. Some (free (nth_outside vs n))) (place_before (nat_eq q) ns (p ∷ []) h)
        | false ↦ λ h. ap (λ b. if b then Some (free (nth_outside vs (position_or_len (nat_eq q) (ns ++ p ∷ [])))) else None) (same ∙ h)
      ] refl

  pub variable_more : (q : ℕ) → cond (nat_eq p q) (Some (free (nth_outside vs (length ns)))) (variable_in vs ns q) ≡ variable_in vs (ns ++ p ∷ []) q
  variable_more q =
      elim (nat_eq p q) as (λ b. nat_eq p q ≡ b → cond b (Some (free (nth_outside vs (length ns)))) (variable_in vs ns q) ≡ variable_in vs (ns ++ p ∷ []) q) [
        | true ↦ λ e. sym own_variable ∙ ap (variable_in vs (ns ++ p ∷ [])) (eqb-true p q e)
        | false ↦ λ e. sym (other_variable q e)
      ] refl

-- a place without a variable isn't listed
pub not_named : (vs : List Var) (ns : List ℕ) (q : ℕ) → is_some (variable_in vs ns q) ≡ false → list_any (nat_eq q) ns ≡ false
not_named vs ns q h =
    elim (list_any (nat_eq q) ns) as (λ b. is_some (if b then Some (free (nth_outside vs (position_or_len (nat_eq q) ns))) else None) ≡ false → b ≡ false) [
      | true ↦ λ e. cc
      | false ↦ λ e. refl
    ] h
