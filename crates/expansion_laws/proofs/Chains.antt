-- A relation on a finite list, by whose steps nothing leads to itself: how long the chains of steps down to an element are.
--     chain      a chain of n steps ends at an element
--     tally      how many numbers below n pass a test
use Rattle.std.proofs.Common.{◌≡◌, ℕ, zero, suc, ◌+◌, ◌<◌, Bool, true, false, not, ◌&&◌, cond, List, [], ◌∷◌, filter, length, refl, sym, ap, subst, ◌∙◌, arith}
use Rattle.std.specs.List.{list_any}
use Rattle.std.proofs.lemmas.Map.Views.{any-filter_same}
use Rattle.lk_rules.proofs.Subsequents.{and_left, and_right, and_both}
use Rattle.search_laws.proofs.Tests.{split, clash, fails, not_false}
use Rattle.expansion_laws.proofs.Lists.{some_passes, any_of, shorter}

-- how many numbers below n pass
abbrev pub tally : (ℕ → Bool) → ℕ → ℕ
tally p zero = 0
tally p (suc n) = cond (p n) 1 0 + tally p n

-- where 0 passes and what passes has a successor that does, one more number passes
tally_later : (p q : ℕ → Bool) → q 0 ≡ true → ((n : ℕ) → p n ≡ true → q (suc n) ≡ true) → (n : ℕ) → tally p n < tally q (suc n)
tally_later p q first next zero =
    let here : tally q 1 ≡ 1 + 0 = ap (λ b. cond b 1 0 + 0) first in
    omega arith
tally_later p q first next (suc n) =
    let lower = tally_later p q first next n in
    split (p n)
    (λ e.
    let here : tally p (suc n) ≡ 1 + tally p n = ap (λ b. cond b 1 0 + tally p n) e in
    let there : tally q (suc (suc n)) ≡ 1 + tally q (suc n) = ap (λ b. cond b 1 0 + tally q (suc n)) (next n e) in
    omega arith)
    (λ e.
    let here : tally p (suc n) ≡ 0 + tally p n = ap (λ b. cond b 1 0 + tally p n) e in
    omega arith)

-- a number that fails is not counted
tally_same : (q : ℕ → Bool) (n : ℕ) → q n ≡ false → tally q (suc n) ≡ tally q n
tally_same q n e =
    let here : tally q (suc n) ≡ 0 + tally q n = ap (λ b. cond b 1 0 + tally q n) e in
    omega arith

module _ {V : Type 0} (eq : V → V → Bool) (same : (v w : V) → eq v w ≡ true → v ≡ w) (tied : (v : V) → eq v v ≡ true)
    (before : V → V → Bool) (all : List V) (within : (v w : V) → before v w ≡ true → list_any (eq v) all ≡ true) where
  -- whether a chain of n steps ends at an element
  abbrev pub chain : ℕ → V → Bool
  chain zero z = true
  chain (suc n) z = list_any (λ w. before w z && chain n w) all

  -- a step more makes a longer chain
  chain_next : (y z : V) → before y z ≡ true → (n : ℕ) → chain n y ≡ true → chain (suc n) z ≡ true
  chain_next y z b n e = any_of eq same (λ w. before w z && chain n w) all y (within y z b) (and_both _ _ b e)

  module _ (Leads : V → V → Type 0) (one : (v w : V) → before v w ≡ true → Leads v w) (further : (v w z : V) → Leads v w → before w z ≡ true → Leads v z)
      (acyclic : (v : V) → Leads v v → ⊥) where
    -- without w, a list still has what leads to w
    kept : (w v : V) (vs : List V) → Leads v w → list_any (eq v) vs ≡ true → list_any (eq v) (filter (λ u. not (eq w u)) vs) ≡ true
    kept w v vs leads m =
        any-filter_same (eq v) (λ u. not (eq w u)) true
        (λ u e. not_false (eq w u) (fails (eq w u) (λ f. absurd (acyclic w (subst (λ k. Leads k w) (same v u e ∙ sym (same w u f)) leads)))))
        vs
        ∙ m

    -- where n elements are all that lead to z, no chain of more steps ends at z
    bounded : (n : ℕ) (vs : List V) (z : V) → length vs < suc n → ((v : V) → Leads v z → list_any (eq v) vs ≡ true) → chain (suc n) z ≡ false
    bounded zero [] z short each =
        fails (chain 1 z) (λ e.
        some_passes (λ w. before w z && chain 0 w) all
        (λ w h. clash (list_any (eq w) []) (each w (one w z (and_left _ _ h))) refl)
        e)
    bounded zero (v ∷ vs) z short each = absurd (omega arith)
    bounded (suc n) vs z short each =
        fails (chain (suc (suc n)) z) (λ e.
        some_passes (λ w. before w z && chain (suc n) w) all
        (λ w h.
        let step = and_left (before w z) (chain (suc n) w) h in
        let fewer : length (filter (λ u. not (eq w u)) vs) < length vs =
        shorter (λ u. not (eq w u)) vs
        (any_of eq same (λ u. not (not (eq w u))) vs w (each w (one w z step)) (ap (λ b. not (not b)) (tied w))) in
        clash (chain (suc n) w) (and_right (before w z) (chain (suc n) w) h)
        (bounded n (filter (λ u. not (eq w u)) vs) w (omega arith) (λ v leads. kept w v vs leads (each v (further v w z leads step)))))
        e)

    -- how many numbers there are of which a chain of so many steps ends at the element
    abbrev pub rank : V → ℕ
    rank z = tally (λ n. chain n z) (suc (length all))

    -- an element that comes before another has a lower rank
    pub rank_rises : (within_leads : (v z : V) → Leads v z → list_any (eq v) all ≡ true) (y z : V) → before y z ≡ true → rank y < rank z
    rank_rises within_leads y z b =
        let lower = tally_later (λ n. chain n y) (λ n. chain n z) refl (chain_next y z b) (suc (length all)) in
        let end = tally_same (λ n. chain n z) (suc (length all)) (bounded (length all) all z (omega arith) (λ v. within_leads v z)) in
        omega arith
