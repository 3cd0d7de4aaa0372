-- A relation on the members of a list: what leads to another does by fewer members than there are.
--     rest      a list without a member
use Rattle.std.proofs.Common.{◌≡◌, ℕ, zero, suc, ◌<◌, Bool, true, false, not, ◌&&◌, ◌||◌, cond, List, [], ◌∷◌, filter, length, inl, inr, ⊎_elim, refl, sym, ap, subst, ◌∙◌, arith}
use Rattle.std.specs.Prelude.{◌⊎◌}
use Rattle.std.specs.List.{list_any}
use Rattle.lk_rules.proofs.Subsequents.{and_left, and_right, and_both}
use Rattle.proof_trees.proofs.Booleans.{or_first, or_second, either}
use Rattle.search_laws.proofs.Tests.{split, not_false}
use Rattle.expansion_laws.proofs.Lists.{any_of, shorter}
use Rattle.expansion_laws.specs.Cycles.{leads}

module _ {V : Type 0} (eq : V → V → Bool) (same : (v w : V) → eq v w ≡ true → v ≡ w) (tied : (v : V) → eq v v ≡ true) where
  -- some member of a list passes
  pub some_member : {P : Type 0} (p : V → Bool) (xs : List V) → ((v : V) → list_any (eq v) xs ≡ true → p v ≡ true → P) → list_any p xs ≡ true → P
  some_member p [] f e = cc
  some_member p (x ∷ xs) f e =
      either (p x) (list_any p xs)
      (λ here. f x (or_first (eq x x) (list_any (eq x) xs) (tied x)) here)
      (λ later. some_member p xs (λ v m h. f v (or_second (eq v x) (list_any (eq v) xs) m) h) later)
      e

  -- what passes in a part of a list passes in the list
  weaker : (p r q : V → Bool) (xs : List V) → ((v : V) → p v ≡ true → r v ≡ true) → list_any p (filter q xs) ≡ true → list_any r xs ≡ true
  weaker p r q [] f e = cc
  weaker p r q (x ∷ xs) f e =
      elim (q x) as (λ b. list_any p (cond b (x ∷ filter q xs) (filter q xs)) ≡ true → (r x || list_any r xs) ≡ true) [
        | true ↦ λ e.
            either (p x) (list_any p (filter q xs)) (λ here. or_first (r x) (list_any r xs) (f x here))
            (λ later. or_second (r x) (list_any r xs) (weaker p r q xs f later)) e
        | false ↦ λ e. or_second (r x) (list_any r xs) (weaker p r q xs f e)
      ] e

  -- a member that is kept is in the part
  kept : (q : V → Bool) (v : V) (xs : List V) → q v ≡ true → list_any (eq v) xs ≡ true → list_any (eq v) (filter q xs) ≡ true
  kept q v [] h e = cc
  kept q v (x ∷ xs) h e =
      elim (q x) as (λ b. q x ≡ b → list_any (eq v) (cond b (x ∷ filter q xs) (filter q xs)) ≡ true) [
        | true ↦ λ k.
            either (eq v x) (list_any (eq v) xs) (λ here. or_first (eq v x) (list_any (eq v) (filter q xs)) here)
            (λ later. or_second (eq v x) (list_any (eq v) (filter q xs)) (kept q v xs h later)) e
        | false ↦ λ k.
            either (eq v x) (list_any (eq v) xs)
            (λ here. let clash : q x ≡ true = sym (ap q (same v x here)) ∙ h in cc)
            (λ later. kept q v xs h later) e
      ] refl

  abbrev pub rest : V → List V → List V
  rest w us = filter (λ u. not (eq w u)) us

  fewer : (w : V) (us : List V) → list_any (eq w) us ≡ true → length (rest w us) < length us
  fewer w us m = shorter (λ u. not (eq w u)) us (any_of eq same (λ u. not (not (eq w u))) us w m (ap (λ b. not (not b)) (tied w)))

  module _ (before : V → V → Bool) where
    -- one more member in front
    pub leads_on : (all : List V) (n : ℕ) (y w z : V) → list_any (eq w) all ≡ true → before y w ≡ true → leads before all n w z ≡ true → leads before all (suc n) y z ≡ true
    leads_on all n y w z m b e = any_of eq same (λ u. before y u && leads before all n u z) all w m (and_both (before y w) (leads before all n w z) b e)

    -- what leads by some members of a list does by members of the list
    within_all : (q : V → Bool) (us : List V) (n : ℕ) (y z : V) → leads before (filter q us) n y z ≡ true → leads before us n y z ≡ true
    within_all q us zero y z e = e
    within_all q us (suc n) y z e =
        weaker (λ w. before y w && leads before (filter q us) n w z) (λ w. before y w && leads before us n w z) q us
        (λ w h. and_both (before y w) (leads before us n w z) (and_left _ _ h) (within_all q us n w z (and_right (before y w) (leads before (filter q us) n w z) h)))
        e

    -- What leads to z does by members other than w, or w does.
    cut : (w : V) (us : List V) (n : ℕ) (y z : V) → leads before us n y z ≡ true
        → ((m : ℕ) × (leads before (rest w us) m y z ≡ true)) ⊎ ((m : ℕ) × (leads before (rest w us) m w z ≡ true))
    cut w us zero y z e = inl (0, e)
    cut w us (suc n) y z e =
        some_member (λ u. before y u && leads before us n u z) us
        (λ u m h.
        ⊎_elim
        (λ (own : (k : ℕ) × (leads before (rest w us) k u z ≡ true)).
        split (eq w u)
        (λ is. inr (own.0, subst (λ v. leads before (rest w us) own.0 v z ≡ true) (sym (same w u is)) own.1))
        (λ other. inl (suc own.0, leads_on (rest w us) own.0 y u z (kept (λ v. not (eq w v)) u us (not_false (eq w u) other) m) (and_left (before y u) (leads before us n u z) h) own.1)))
        (λ of_w. inr of_w)
        (cut w us n u z (and_right (before y u) (leads before us n u z) h)))
        e

    -- what leads from w does by members other than w
    without : (w : V) (us : List V) (n : ℕ) (z : V) → leads before us n w z ≡ true → (m : ℕ) × (leads before (rest w us) m w z ≡ true)
    without w us n z e = ⊎_elim (λ own. own) (λ own. own) (cut w us n w z e)

    -- what leads to z does by no more members than there are
    short : (k : ℕ) (us : List V) → length us < suc k → (n : ℕ) (y z : V) → leads before us n y z ≡ true → (m : ℕ) × (m < suc (length us)) × (leads before us m y z ≡ true)
    short k us few zero y z e = (0, omega arith, e)
    short zero [] few (suc n) y z e = cc
    short zero (u ∷ us) few (suc n) y z e = absurd (omega arith)
    short (suc k) us few (suc n) y z e =
        some_member (λ u. before y u && leads before us n u z) us
        (λ w m h.
        let off = without w us n z (and_right (before y w) (leads before us n w z) h) in
        let less = fewer w us m in
        let r = short k (rest w us) (omega arith) off.0 w z off.1 in
        (suc r.0, omega arith, leads_on us r.0 y w z m (and_left (before y w) (leads before us n w z) h) (within_all (λ u. not (eq w u)) us r.0 w z r.2)))
        e

    -- a member that leads to itself does by fewer members than there are
    pub short_cycle : (us : List V) (v : V) → list_any (eq v) us ≡ true → (n : ℕ) → leads before us n v v ≡ true → (m : ℕ) × (m < length us) × (leads before us m v v ≡ true)
    short_cycle us v m n e =
        let off = without v us n v e in
        let less = fewer v us m in
        let r = short (length (rest v us)) (rest v us) (omega arith) off.0 v v off.1 in
        (r.0, omega arith, within_all (λ u. not (eq v u)) us r.0 v v r.2)
