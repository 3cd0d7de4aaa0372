-- The free variables and predicate symbols of well-formed values are well formed.
use Rattle.std.proofs.Common.{◌≡◌, ℕ, ◌+◌, Bool, true, false, ◌==◌, ◌&&◌, ◌||◌, refl, sym, ap, ◌∙◌}
use Rattle.std.specs.Ordering.{eq_by_cmp}
use Rattle.fol.specs.declared.symbols.Var.{Var}
use Rattle.fol.specs.Syntax.{Term, free, bound, app, Terms, nil, cons, Pred, pred_symbol, Formula, atom, top, bot, not, and, or, imp, all, ex}
use Rattle.fol.specs.Order.{var_cmp, pred_cmp}
use Rattle.fol.proofs.OrderTies.{var_equality_same, pred_equality_same}
use Rattle.fol.specs.Formed.{is_formed_var, is_formed_pred, count_terms, is_formed_term_at, are_formed_terms_at, is_formed_at, IsFormedVar, IsFormedPred}
use Rattle.finite.specs.Finite as set
use Rattle.free_variables.specs.Sets.{AreFormedVars, AreFormedSyms}
use Rattle.free_variables.specs.Occurrence.{is_free_in, is_free_in_term, is_free_in_terms, is_pred_in, vars_formula, vars_term, preds_formula}
use Rattle.free_variables.proofs.OccurrenceLaws.{free_var_members, term_var_members, pred_members}

and_left : (a b : Bool) → (a && b) ≡ true → a ≡ true
and_left true b e = refl
and_left false b e = e

and_right : (a b : Bool) → (a && b) ≡ true → b ≡ true
and_right true b e = e
and_right false b e = cc

either : {P : Type 0} (a b : Bool) → (a ≡ true → P) → (b ≡ true → P) → (a || b) ≡ true → P
either true b f g e = f refl
either false b f g e = g e

mutual
  pub formed_var_of_term : (v : Var) (t : Term) (k : ℕ) → is_formed_term_at k t ≡ true → is_free_in_term v t ≡ true → IsFormedVar v
  formed_var_of_term v (free w) k h e = ap is_formed_var ((var_equality_same v w (eq_by_cmp var_cmp v w) refl).0 e) ∙ h
  formed_var_of_term v (bound i) k h e = cc
  formed_var_of_term v (app s ts) k h e = formed_var_of_terms v ts k (and_right _ (are_formed_terms_at k ts) h) e

  formed_var_of_terms : (v : Var) (ts : Terms) (k : ℕ) → are_formed_terms_at k ts ≡ true → is_free_in_terms v ts ≡ true → IsFormedVar v
  formed_var_of_terms v nil k h e = cc
  formed_var_of_terms v (cons t ts) k h e =
      either _ _ (formed_var_of_term v t k (and_left _ _ h)) (formed_var_of_terms v ts k (and_right (is_formed_term_at k t) _ h)) e

pub formed_var_of : (v : Var) (f : Formula) (k : ℕ) → is_formed_at k f ≡ true → is_free_in v f ≡ true → IsFormedVar v
formed_var_of v (atom s ts) k h e = formed_var_of_terms v ts k (and_right _ (are_formed_terms_at k ts) h) e
formed_var_of v top k h e = cc
formed_var_of v bot k h e = cc
formed_var_of v (not f) k h e = formed_var_of v f k h e
formed_var_of v (and f g) k h e = either _ _ (formed_var_of v f k (and_left _ _ h)) (formed_var_of v g k (and_right (is_formed_at k f) _ h)) e
formed_var_of v (or f g) k h e = either _ _ (formed_var_of v f k (and_left _ _ h)) (formed_var_of v g k (and_right (is_formed_at k f) _ h)) e
formed_var_of v (imp f g) k h e = either _ _ (formed_var_of v f k (and_left _ _ h)) (formed_var_of v g k (and_right (is_formed_at k f) _ h)) e
formed_var_of v (all f) k h e = formed_var_of v f (k + 1) h e
formed_var_of v (ex f) k h e = formed_var_of v f (k + 1) h e

pub formed_pred_of : (p : Pred) (f : Formula) (k : ℕ) → is_formed_at k f ≡ true → is_pred_in p f ≡ true → IsFormedPred p
formed_pred_of p (atom q ts) k h e =
    ap is_formed_pred ((pred_equality_same p q (eq_by_cmp pred_cmp p q) refl).0 e) ∙ and_left _ _ (and_left (is_formed_pred q && (count_terms ts == (pred_symbol q).arity)) _ h)
formed_pred_of p top k h e = cc
formed_pred_of p bot k h e = cc
formed_pred_of p (not f) k h e = formed_pred_of p f k h e
formed_pred_of p (and f g) k h e = either _ _ (formed_pred_of p f k (and_left _ _ h)) (formed_pred_of p g k (and_right (is_formed_at k f) _ h)) e
formed_pred_of p (or f g) k h e = either _ _ (formed_pred_of p f k (and_left _ _ h)) (formed_pred_of p g k (and_right (is_formed_at k f) _ h)) e
formed_pred_of p (imp f g) k h e = either _ _ (formed_pred_of p f k (and_left _ _ h)) (formed_pred_of p g k (and_right (is_formed_at k f) _ h)) e
formed_pred_of p (all f) k h e = formed_pred_of p f (k + 1) h e
formed_pred_of p (ex f) k h e = formed_pred_of p f (k + 1) h e

-- the sets

pub formed_vars : (f : Formula) (k : ℕ) → is_formed_at k f ≡ true → AreFormedVars (vars_formula f set.empty)
formed_vars f k h v e = formed_var_of v f k h (sym (free_var_members f v) ∙ e)

pub formed_term_vars : (t : Term) (k : ℕ) → is_formed_term_at k t ≡ true → AreFormedVars (vars_term t set.empty)
formed_term_vars t k h v e = formed_var_of_term v t k h (sym (term_var_members t v) ∙ e)

pub formed_preds : (f : Formula) (k : ℕ) → is_formed_at k f ≡ true → AreFormedSyms (preds_formula f set.empty)
formed_preds f k h p e = formed_pred_of p f k h (sym (pred_members f p) ∙ e)
