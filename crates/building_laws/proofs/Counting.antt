-- How often a variable stands in a list.
use Rattle.std.proofs.Common.{◌≡◌, ℕ, zero, suc, ◌+◌, ◌<◌, ◌≤◌, Bool, true, false, not, ◌&&◌, ◌||◌, cond, List, [], ◌∷◌, ◌++◌, refl, sym, ap, subst, ◌∙◌, arith}
use Rattle.std.specs.List.{list_all, list_any}
use Rattle.std.specs.Ordering.{eq_by_cmp}
use Rattle.fol.specs.declared.symbols.Var.{Var}
use Rattle.fol.specs.Order.{var_cmp}
use Rattle.free_variables.proofs.ShutLaws.{or_left, or_right}
use Rattle.substitution.proofs.ImageLaws.{itself, same_var}
use Rattle.lk_rules.proofs.Subsequents.{and_left, and_right, and_both}
use Rattle.proof_trees.proofs.Booleans.{either}
use Rattle.search_laws.proofs.Tests.{split, clash, not_true}
use Rattle.expansion_laws.specs.Proofs.{are_distinct}

-- how often v stands in the list
abbrev pub count : Var → List Var → ℕ
count v [] = 0
count v (w ∷ ws) = cond (eq_by_cmp var_cmp v w) 1 0 + count v ws

pub count-append : (v : Var) (xs ys : List Var) → count v (xs ++ ys) ≡ count v xs + count v ys
count-append v [] ys = omega arith
count-append v (w ∷ ws) ys = let rest = count-append v ws ys in omega arith

-- what follows from either part of a sum
pub either_counted : {P : Type 0} (m n k : ℕ) → k ≡ m + n → (0 < m → P) → (0 < n → P) → 0 < k → P
either_counted {P} m n k sum f g l =
    elim m as (λ j. m ≡ j → P) [
      | zero ↦ λ e. g (omega arith)
      | suc j ↦ λ e. f (omega arith)
    ] refl

-- what is counted is in the list
pub among_of_count : (v : Var) (vs : List Var) → 0 < count v vs → list_any (eq_by_cmp var_cmp v) vs ≡ true
among_of_count v [] h = absurd (omega arith)
among_of_count v (w ∷ ws) h =
    elim (eq_by_cmp var_cmp v w) as (λ b. 0 < cond b 1 0 + count v ws → (b || list_any (eq_by_cmp var_cmp v) ws) ≡ true) [
      | true ↦ λ _. refl
      | false ↦ λ later. among_of_count v ws (omega arith)
    ] h

pub count_first : (v : Var) (vs : List Var) → 0 < count v (v ∷ vs)
count_first v vs =
    let one : count v (v ∷ vs) ≡ 1 + count v vs = ap (λ b. cond b 1 0 + count v vs) (itself v) in
    omega arith

count_later : (v w : Var) (vs : List Var) → 0 < count v vs → 0 < count v (w ∷ vs)
count_later v w vs h = omega arith

-- where some variable of a list passes, what follows from any that does
pub some_counted : {P : Type 0} (p : Var → Bool) (vs : List Var) → ((v : Var) → 0 < count v vs → p v ≡ true → P) → list_any p vs ≡ true → P
some_counted p [] f e = cc
some_counted p (w ∷ ws) f e = either (p w) (list_any p ws) (f w (count_first w ws)) (some_counted p ws (λ v m. f v (count_later v w ws m))) e

-- where no variable of a list passes, one that passes doesn't stand in it
pub not_counted : (p : Var → Bool) (vs : List Var) → list_any p vs ≡ false → (v : Var) → p v ≡ true → count v vs ≡ 0
not_counted p [] e v m = refl
not_counted p (w ∷ ws) e v m =
    let rest = not_counted p ws (or_right (p w) (list_any p ws) e) v m in
    split (eq_by_cmp var_cmp v w)
    (λ same. clash (p w) (ap p (sym (same_var v w same)) ∙ m) (or_left (p w) (list_any p ws) e))
    (λ other. let first : count v (w ∷ ws) ≡ 0 + count v ws = ap (λ b. cond b 1 0 + count v ws) other in omega arith)

-- in a list without repeats a variable stands once at most

none_counted : (w : Var) (ws : List Var) → list_all (λ u. not (eq_by_cmp var_cmp w u)) ws ≡ true → count w ws ≡ 0
none_counted w [] h = refl
none_counted w (u ∷ us) h =
    let rest = none_counted w us (and_right (not (eq_by_cmp var_cmp w u)) _ h) in
    let first : count w (u ∷ us) ≡ 0 + count w us = ap (λ b. cond b 1 0 + count w us) (not_true (eq_by_cmp var_cmp w u) (and_left _ _ h)) in
    omega arith

pub distinct_counted : (vs : List Var) → are_distinct vs ≡ true → (v : Var) → count v vs ≤ 1
distinct_counted [] h v = omega arith
distinct_counted (w ∷ ws) h v =
    split (eq_by_cmp var_cmp v w)
    (λ e.
    let others : count v ws ≡ 0 = ap (λ u. count u ws) (same_var v w e) ∙ none_counted w ws (and_left _ _ h) in
    let first : count v (w ∷ ws) ≡ 1 + count v ws = ap (λ b. cond b 1 0 + count v ws) e in
    omega arith)
    (λ e.
    let others = distinct_counted ws (and_right (list_all (λ u. not (eq_by_cmp var_cmp w u)) ws) _ h) v in
    let first : count v (w ∷ ws) ≡ 0 + count v ws = ap (λ b. cond b 1 0 + count v ws) e in
    omega arith)

-- and the other way round

none_same : (w : Var) (ws : List Var) → count w ws ≡ 0 → list_all (λ u. not (eq_by_cmp var_cmp w u)) ws ≡ true
none_same w [] h = refl
none_same w (u ∷ us) h =
    elim (eq_by_cmp var_cmp w u) as (λ b. cond b 1 0 + count w us ≡ 0 → (not b && list_all (λ v. not (eq_by_cmp var_cmp w v)) us) ≡ true) [
      | true ↦ λ k. absurd (omega arith)
      | false ↦ λ k. none_same w us (omega arith)
    ] h

pub distinct_once : (vs : List Var) → ((v : Var) → count v vs ≤ 1) → are_distinct vs ≡ true
distinct_once [] h = refl
distinct_once (w ∷ ws) h =
    let one : count w (w ∷ ws) ≡ 1 + count w ws = ap (λ b. cond b 1 0 + count w ws) (itself w) in
    let most = h w in
    let others : count w ws ≡ 0 = omega arith in
    and_both _ _ (none_same w ws others) (distinct_once ws (λ v. let all = h v in omega arith))

-- what is in the list is counted
pub count_of_among : (v : Var) (vs : List Var) → list_any (eq_by_cmp var_cmp v) vs ≡ true → 0 < count v vs
count_of_among v vs = some_counted (eq_by_cmp var_cmp v) vs (λ w inside e. subst (λ u. 0 < count u vs) (sym (same_var v w e)) inside)
