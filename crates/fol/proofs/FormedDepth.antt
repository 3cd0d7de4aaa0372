-- Inside 2 ^ 32 quantifiers and more their number no longer matters, since no index is that large. So a count that stops at 2 ^ 64 - 1 serves.
use Rattle.std.proofs.Common.{◌≡◌, ℕ, ◌+◌, ◌-◌, ◌^◌, ◌≤◌, ◌⊎◌, inl, inr, min, ltb, ◌==◌, ◌&&◌, refl, ap, arith}
use Rattle.std.proofs.lemmas.Bool.{cases_lt}
use Rattle.std.proofs.lemmas.Bool.Decides.{nat_tests}
use Rattle.fol.specs.Syntax.{Term, free, bound, app, Terms, nil, cons, pred_symbol, Formula, atom, top, bot, not, and, or, imp, all, ex}
use Rattle.fol.specs.Formed.{is_formed_sym, is_formed_pred, count_terms, is_formed_term_at, are_formed_terms_at, is_formed_at}

far_bound : (i k m w : ℕ) → w ≤ k → w ≤ m → (ltb i k && ltb i w) ≡ (ltb i m && ltb i w)
far_bound i k m w deep far = grind (arith, nat_tests)

mutual
  pub far_term : (t : Term) (k m : ℕ) → 2 ^ 32 ≤ k → 2 ^ 32 ≤ m → is_formed_term_at k t ≡ is_formed_term_at m t
  far_term (free v) k m deep far = refl
  far_term (bound i) k m deep far = far_bound i k m (2 ^ 32) deep far
  far_term (app s ts) k m deep far = ap (λ b. is_formed_sym s && (count_terms ts == s.arity) && b) (far_terms ts k m deep far)

  pub far_terms : (ts : Terms) (k m : ℕ) → 2 ^ 32 ≤ k → 2 ^ 32 ≤ m → are_formed_terms_at k ts ≡ are_formed_terms_at m ts
  far_terms nil k m deep far = refl
  far_terms (cons t ts) k m deep far = λ i. far_term t k m deep far i && far_terms ts k m deep far i

pub far_formula : (f : Formula) (k m : ℕ) → 2 ^ 32 ≤ k → 2 ^ 32 ≤ m → is_formed_at k f ≡ is_formed_at m f
far_formula (atom p ts) k m deep far =
    ap (λ b. is_formed_pred p && (count_terms ts == (pred_symbol p).arity) && b) (far_terms ts k m deep far)
far_formula top k m deep far = refl
far_formula bot k m deep far = refl
far_formula (not f) k m deep far = far_formula f k m deep far
far_formula (and f g) k m deep far = λ i. far_formula f k m deep far i && far_formula g k m deep far i
far_formula (or f g) k m deep far = λ i. far_formula f k m deep far i && far_formula g k m deep far i
far_formula (imp f g) k m deep far = λ i. far_formula f k m deep far i && far_formula g k m deep far i
far_formula (all f) k m deep far = far_formula f (k + 1) (m + 1) (omega arith) (omega arith)
far_formula (ex f) k m deep far = far_formula f (k + 1) (m + 1) (omega arith) (omega arith)

-- a count that stops at 2 ^ 64 - 1 is one more, or it and the true count are past every index
next_depth : (d r limit : ℕ) → 2 ^ 32 ≤ limit → r ≡ min (d + 1) limit → (r ≡ d + 1) ⊎ ((2 ^ 32 ≤ r) × (2 ^ 32 ≤ d + 1))
next_depth d r limit large is = elim (cases_lt d limit) [ inl h ↦ inl (omega arith) | inr h ↦ inr (omega arith, omega arith) ]

-- one quantifier further in, by a count that stops at 2 ^ 64 - 1
pub next_formed : (f : Formula) (d r : ℕ) → r ≡ min (d + 1) (2 ^ 64 - 1) → is_formed_at r f ≡ is_formed_at (d + 1) f
next_formed f d r is =
    elim (next_depth d r (2 ^ 64 - 1) (omega arith) is) [
      | inl same ↦ ap (λ k. is_formed_at k f) same
      | inr far ↦ far_formula f r (d + 1) far.0 far.1
    ]
