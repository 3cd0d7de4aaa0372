-- Inside 2 ^ 32 quantifiers and more their number no longer matters to an instance, since no index is that large. So a count that
-- stops at 2 ^ 64 - 1 serves.
use Rattle.std.proofs.Common.{◌≡◌, ℕ, ◌+◌, ◌-◌, ◌^◌, ◌≤◌, ◌⊎◌, inl, inr, min, ltb, true, ◌&&◌, refl, ap, ◌∙◌, arith}
use Rattle.std.proofs.lemmas.Bool.Decides.{nat_tests}
use Rattle.fol.specs.Syntax.{Term, free, bound, app, Terms, nil, cons, Formula, atom, top, bot, not, and, or, imp, all, ex}
use Rattle.fol.specs.Formed.{is_formed_term_at, are_formed_terms_at, is_formed_at}
use Rattle.fol.proofs.FormedDepth.{far_formula}
use Rattle.std.proofs.lemmas.Bool.{cases_lt}
use Rattle.substitution.proofs.Booleans.{and_left, and_right}
use Rattle.substitution.specs.Instance.{inst_term_at, inst_terms_at, inst_at}

far_bound : (u : Term) (i k m d w : ℕ) → w ≤ k → w ≤ m → (ltb i d && ltb i w) ≡ true → inst_term_at u k (bound i) ≡ inst_term_at u m (bound i)
far_bound u i k m d w deep far h = grind (arith, nat_tests)

mutual
  far_term : (u t : Term) (k m d : ℕ) → 2 ^ 32 ≤ k → 2 ^ 32 ≤ m → is_formed_term_at d t ≡ true → inst_term_at u k t ≡ inst_term_at u m t
  far_term u (free v) k m d deep far h = refl
  far_term u (bound i) k m d deep far h = far_bound u i k m d (2 ^ 32) deep far h
  far_term u (app s ts) k m d deep far h =
      λ i. app s (far_terms u ts k m d deep far (and_right _ (are_formed_terms_at d ts) h) i)

  far_terms : (u : Term) (ts : Terms) (k m d : ℕ) → 2 ^ 32 ≤ k → 2 ^ 32 ≤ m → are_formed_terms_at d ts ≡ true → inst_terms_at u k ts ≡ inst_terms_at u m ts
  far_terms u nil k m d deep far h = refl
  far_terms u (cons t ts) k m d deep far h =
      λ i. cons (far_term u t k m d deep far (and_left _ _ h) i) (far_terms u ts k m d deep far (and_right (is_formed_term_at d t) _ h) i)

far_inst : (u : Term) (f : Formula) (k m d : ℕ) → 2 ^ 32 ≤ k → 2 ^ 32 ≤ m → is_formed_at d f ≡ true → inst_at u k f ≡ inst_at u m f
far_inst u (atom s ts) k m d deep far h =
    λ i. atom s (far_terms u ts k m d deep far (and_right _ (are_formed_terms_at d ts) h) i)
far_inst u top k m d deep far h = refl
far_inst u bot k m d deep far h = refl
far_inst u (not f) k m d deep far h = λ i. not (far_inst u f k m d deep far h i)
far_inst u (and f g) k m d deep far h =
    λ i. and (far_inst u f k m d deep far (and_left _ _ h) i) (far_inst u g k m d deep far (and_right (is_formed_at d f) _ h) i)
far_inst u (or f g) k m d deep far h =
    λ i. or (far_inst u f k m d deep far (and_left _ _ h) i) (far_inst u g k m d deep far (and_right (is_formed_at d f) _ h) i)
far_inst u (imp f g) k m d deep far h =
    λ i. imp (far_inst u f k m d deep far (and_left _ _ h) i) (far_inst u g k m d deep far (and_right (is_formed_at d f) _ h) i)
far_inst u (all f) k m d deep far h = λ i. all (far_inst u f (k + 1) (m + 1) (d + 1) (omega arith) (omega arith) h i)
far_inst u (ex f) k m d deep far h = λ i. ex (far_inst u f (k + 1) (m + 1) (d + 1) (omega arith) (omega arith) h i)

-- a count that stops at 2 ^ 64 - 1 is one more, or it and the true count are past every index
next_depth : (d r limit : ℕ) → 2 ^ 32 ≤ limit → r ≡ min (d + 1) limit → (r ≡ d + 1) ⊎ ((2 ^ 32 ≤ r) × (2 ^ 32 ≤ d + 1))
next_depth d r limit large is = elim (cases_lt d limit) [ inl h ↦ inl (omega arith) | inr h ↦ inr (omega arith, omega arith) ]

-- one quantifier further in, by a count that stops at 2 ^ 64 - 1
pub next_inst : (u : Term) (f : Formula) (d r : ℕ) → r ≡ min (d + 1) (2 ^ 64 - 1) → is_formed_at (d + 1 + 1) f ≡ true → inst_at u r f ≡ inst_at u (d + 1) f
next_inst u f d r is formed =
    elim (next_depth d r (2 ^ 64 - 1) (omega arith) is) [
      | inl same ↦ ap (λ k. inst_at u k f) same
      | inr far ↦ far_inst u f r (d + 1) (d + 1 + 1) far.0 far.1 formed
    ]

pub next_open : (f : Formula) (d r : ℕ) → r ≡ min (d + 1) (2 ^ 64 - 1) → is_formed_at (d + 1 + 1) f ≡ true → is_formed_at (r + 1) f ≡ true
next_open f d r is formed =
    elim (next_depth d r (2 ^ 64 - 1) (omega arith) is) [
      | inl same ↦ ap (λ k. is_formed_at (k + 1) f) same ∙ formed
      | inr far ↦ far_formula f (r + 1) (d + 1 + 1) (omega arith) (omega arith) ∙ formed
    ]
