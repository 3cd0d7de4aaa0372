-- A formula with a variable bound: its indices, its quantifiers inside one another, its variables and its predicate symbols.
use Rattle.std.proofs.Common.{◌≡◌, ℕ, ◌+◌, ◌^◌, ◌<◌, max, true, false, not, ltb, if◌then◌else◌, refl, sym, ap, subst, ◌∙◌, arith}
use Rattle.std.specs.List.{list_any}
use Rattle.std.specs.Ordering.{eq_by_cmp}
use Rattle.std.proofs.lemmas.Bool.Decides.{nat_tests}
use Rattle.fol.specs.declared.symbols.Var.{Var}
use Rattle.fol.specs.Syntax.{Pred, Term, free, bound, app, Terms, nil, cons, Formula, atom, top, bot, not as negation, and, or, imp, all, ex}
use Rattle.fol.specs.Order.{var_cmp, pred_cmp}
use Rattle.fol.specs.Formed.{is_formed, is_formed_at, IsFormedVar}
use Rattle.free_variables.specs.Occurrence.{is_free_in, is_pred_in}
use Rattle.free_variables.proofs.OccurrenceLaws.{is_pred-pred_list}
use Rattle.substitution.specs.Closed.{is_closed_term_at, are_closed_terms_at, is_closed_at}
use Rattle.substitution.specs.Instance.{inst, bind_term_at, bind_terms_at, bind_at, bind, nesting}
use Rattle.substitution.proofs.Booleans.{and_left, and_right, and_both}
use Rattle.substitution.proofs.BindLaws.{inst-bind_itself}
use Rattle.substitution.proofs.FreeLaws.{free-bind_at}
use Rattle.substitution.proofs.InstanceFormed.{formed-inst, formed-bind}
use Rattle.substitution.proofs.ShapeLaws.{preds-bind_at}

-- indices

index_below : (i k : ℕ) → ltb i k ≡ true → ltb i (k + 1) ≡ true
index_below i k h = grind (arith, nat_tests)

own_index : (k : ℕ) → ltb k (k + 1) ≡ true
own_index k = grind (arith, nat_tests)

mutual
  closed-bind_term : (v : Var) (t : Term) (k : ℕ) → is_closed_term_at k t ≡ true → is_closed_term_at (k + 1) (bind_term_at v k t) ≡ true
  closed-bind_term v (free w) k h =
      elim (eq_by_cmp var_cmp v w) as (λ b. is_closed_term_at (k + 1) (if b then bound k else free w) ≡ true) [
        | true ↦ own_index k
        | false ↦ refl
      ]
  closed-bind_term v (bound i) k h = index_below i k h
  closed-bind_term v (app s ts) k h = closed-bind_terms v ts k h

  closed-bind_terms : (v : Var) (ts : Terms) (k : ℕ) → are_closed_terms_at k ts ≡ true → are_closed_terms_at (k + 1) (bind_terms_at v k ts) ≡ true
  closed-bind_terms v nil k h = refl
  closed-bind_terms v (cons t ts) k h = and_both _ _ (closed-bind_term v t k (and_left _ _ h)) (closed-bind_terms v ts k (and_right (is_closed_term_at k t) _ h))

-- no index is that of a quantifier outside
pub closed-bind_at : (v : Var) (f : Formula) (k : ℕ) → is_closed_at k f ≡ true → is_closed_at (k + 1) (bind_at v k f) ≡ true
closed-bind_at v (atom s ts) k h = closed-bind_terms v ts k h
closed-bind_at v top k h = refl
closed-bind_at v bot k h = refl
closed-bind_at v (negation f) k h = closed-bind_at v f k h
closed-bind_at v (and f g) k h = and_both _ _ (closed-bind_at v f k (and_left _ _ h)) (closed-bind_at v g k (and_right (is_closed_at k f) _ h))
closed-bind_at v (or f g) k h = and_both _ _ (closed-bind_at v f k (and_left _ _ h)) (closed-bind_at v g k (and_right (is_closed_at k f) _ h))
closed-bind_at v (imp f g) k h = and_both _ _ (closed-bind_at v f k (and_left _ _ h)) (closed-bind_at v g k (and_right (is_closed_at k f) _ h))
closed-bind_at v (all f) k h = closed-bind_at v f (k + 1) h
closed-bind_at v (ex f) k h = closed-bind_at v f (k + 1) h

-- quantifiers inside one another

nesting-bind_at : (v : Var) (f : Formula) (k : ℕ) → nesting (bind_at v k f) ≡ nesting f
nesting-bind_at v (atom s ts) k = refl
nesting-bind_at v top k = refl
nesting-bind_at v bot k = refl
nesting-bind_at v (negation f) k = nesting-bind_at v f k
nesting-bind_at v (and f g) k = λ i. max (nesting-bind_at v f k i) (nesting-bind_at v g k i)
nesting-bind_at v (or f g) k = λ i. max (nesting-bind_at v f k i) (nesting-bind_at v g k i)
nesting-bind_at v (imp f g) k = λ i. max (nesting-bind_at v f k i) (nesting-bind_at v g k i)
nesting-bind_at v (all f) k = ap (λ n. n + 1) (nesting-bind_at v f (k + 1))
nesting-bind_at v (ex f) k = ap (λ n. n + 1) (nesting-bind_at v f (k + 1))

-- where a bound formula has few of them, the formula itself has
pub nested_less : (f : Formula) (v : Var) (w : ℕ) → nesting (bind f v) + 1 < w → nesting f < w
nested_less f v w few = let same : nesting (bind f v) ≡ nesting f = nesting-bind_at v f 0 in omega arith

-- well-formedness

-- of a formula with few of them, also with a variable bound
pub formed_bound : (f : Formula) (v : Var) (w : ℕ) → w ≡ 2 ^ 32 → nesting f < w → is_formed f ≡ true → is_formed_at 1 (bind f v) ≡ true
formed_bound f v w is few formed = formed-bind f v (subst (λ (m : ℕ). nesting f < m) is few) formed

-- the instance by the variable is the formula itself
pub given_back : (f : Formula) (v : Var) → is_closed_at 0 f ≡ true → inst (bind f v) (free v) ≡ f
given_back f v closed = inst-bind_itself f v 0 closed

-- so it is well formed where the bound formula is
pub formed_before : (f : Formula) (v : Var) → is_closed_at 0 f ≡ true → IsFormedVar v → is_formed_at 1 (bind f v) ≡ true → is_formed f ≡ true
formed_before f v closed var formed = subst (λ (g : Formula). is_formed g ≡ true) (given_back f v closed) (formed-inst (bind f v) (free v) formed var)

-- variables and predicate symbols

pub free_kept : (w v : Var) (f : Formula) → is_free_in w (bind f v) ≡ true → is_free_in w f ≡ true
free_kept w v f h = and_left (is_free_in w f) (not (eq_by_cmp var_cmp w v)) (sym (free-bind_at w v f 0) ∙ h)

pub other_kept : (w v : Var) (f : Formula) → is_free_in w (bind f v) ≡ true → not (eq_by_cmp var_cmp w v) ≡ true
other_kept w v f h = and_right (is_free_in w f) (not (eq_by_cmp var_cmp w v)) (sym (free-bind_at w v f 0) ∙ h)

pub pred-bind : (q : Pred) (f : Formula) (v : Var) → is_pred_in q (bind f v) ≡ is_pred_in q f
pred-bind q f v = sym (is_pred-pred_list q (bind f v)) ∙ ap (list_any (eq_by_cmp pred_cmp q)) (preds-bind_at v f 0) ∙ is_pred-pred_list q f
