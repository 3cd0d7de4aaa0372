-- The sets of variables and of predicate symbols have those that stand in the formula.
use Rattle.std.proofs.Common.{◌≡◌, Bool, true, false, ◌||◌, List, ◌++◌, refl, ap, ◌∙◌}
use Rattle.std.specs.List.{list_any}
use Rattle.std.specs.Ordering.{eq_by_cmp}
use Rattle.std.proofs.lemmas.List.Folds.{list_any-append}
use Rattle.fol.specs.declared.symbols.Var.{Var}
use Rattle.fol.specs.Syntax.{Term, free, bound, app, Terms, nil, cons, Pred, Formula, atom, top, bot, not, and, or, imp, all, ex}
use Rattle.fol.specs.Order.{var_cmp, pred_cmp}
use Rattle.fol.specs.OrderLaws.{var_total, pred_total}
use Rattle.finite.specs.Finite as set
use Rattle.finite.proofs.Finite.{has-adds_each, has-empty}
use Rattle.free_variables.specs.Sets.{VarSet, SymSet}
use Rattle.free_variables.specs.Occurrence.{is_free_in, is_free_in_term, is_free_in_terms, is_pred_in, var_list, var_list_term, var_list_terms, pred_list, vars_formula, vars_term, preds_formula}

or-false : (b : Bool) → (b || false) ≡ b
or-false true = refl
or-false false = refl

or_swap : (a b : Bool) → (a || b) ≡ (b || a)
or_swap true true = refl
or_swap true false = refl
or_swap false true = refl
or_swap false false = refl

-- one of two lists in a row
in_both : {K : Type 0} (p : K → Bool) (xs ys : List K) (a b : Bool) → list_any p xs ≡ a → list_any p ys ≡ b → list_any p (xs ++ ys) ≡ (a || b)
in_both p xs ys a b e d = list_any-append p xs ys ∙ λ i. e i || d i

mutual
  pub is_free-var_list_term : (v : Var) (t : Term) → list_any (eq_by_cmp var_cmp v) (var_list_term t) ≡ is_free_in_term v t
  is_free-var_list_term v (free w) = or-false (eq_by_cmp var_cmp v w)
  is_free-var_list_term v (bound i) = refl
  is_free-var_list_term v (app s ts) = is_free-var_list_terms v ts

  pub is_free-var_list_terms : (v : Var) (ts : Terms) → list_any (eq_by_cmp var_cmp v) (var_list_terms ts) ≡ is_free_in_terms v ts
  is_free-var_list_terms v nil = refl
  is_free-var_list_terms v (cons t ts) = in_both _ (var_list_term t) _ _ _ (is_free-var_list_term v t) (is_free-var_list_terms v ts)

pub is_free-var_list : (v : Var) (f : Formula) → list_any (eq_by_cmp var_cmp v) (var_list f) ≡ is_free_in v f
is_free-var_list v (atom s ts) = is_free-var_list_terms v ts
is_free-var_list v top = refl
is_free-var_list v bot = refl
is_free-var_list v (not f) = is_free-var_list v f
is_free-var_list v (and f g) = in_both _ (var_list f) _ _ _ (is_free-var_list v f) (is_free-var_list v g)
is_free-var_list v (or f g) = in_both _ (var_list f) _ _ _ (is_free-var_list v f) (is_free-var_list v g)
is_free-var_list v (imp f g) = in_both _ (var_list f) _ _ _ (is_free-var_list v f) (is_free-var_list v g)
is_free-var_list v (all f) = is_free-var_list v f
is_free-var_list v (ex f) = is_free-var_list v f

pub is_pred-pred_list : (p : Pred) (f : Formula) → list_any (eq_by_cmp pred_cmp p) (pred_list f) ≡ is_pred_in p f
is_pred-pred_list p (atom q ts) = or-false (eq_by_cmp pred_cmp p q)
is_pred-pred_list p top = refl
is_pred-pred_list p bot = refl
is_pred-pred_list p (not f) = is_pred-pred_list p f
is_pred-pred_list p (and f g) = in_both _ (pred_list f) _ _ _ (is_pred-pred_list p f) (is_pred-pred_list p g)
is_pred-pred_list p (or f g) = in_both _ (pred_list f) _ _ _ (is_pred-pred_list p f) (is_pred-pred_list p g)
is_pred-pred_list p (imp f g) = in_both _ (pred_list f) _ _ _ (is_pred-pred_list p f) (is_pred-pred_list p g)
is_pred-pred_list p (all f) = is_pred-pred_list p f
is_pred-pred_list p (ex f) = is_pred-pred_list p f

-- a set with the variables of a term has them and what it had
pub has-vars_term : (t : Term) (vs : VarSet) (v : Var) → set.has (vars_term t vs) v ≡ (is_free_in_term v t || set.has vs v)
has-vars_term t vs v =
    has-adds_each var_total vs (var_list_term t) v ∙ ap (λ b. set.has vs v || b) (is_free-var_list_term v t) ∙ or_swap (set.has vs v) (is_free_in_term v t)

-- a set with the free variables of a formula has them and what it had
pub has-vars_formula : (f : Formula) (vs : VarSet) (v : Var) → set.has (vars_formula f vs) v ≡ (is_free_in v f || set.has vs v)
has-vars_formula f vs v =
    has-adds_each var_total vs (var_list f) v ∙ ap (λ b. set.has vs v || b) (is_free-var_list v f) ∙ or_swap (set.has vs v) (is_free_in v f)

-- a set with the predicate symbols of a formula has them and what it had
pub has-preds_formula : (f : Formula) (ss : SymSet) (p : Pred) → set.has (preds_formula f ss) p ≡ (is_pred_in p f || set.has ss p)
has-preds_formula f ss p =
    has-adds_each pred_total ss (pred_list f) p ∙ ap (λ b. set.has ss p || b) (is_pred-pred_list p f) ∙ or_swap (set.has ss p) (is_pred_in p f)

-- the set of the variables of a term
pub term_var_members : (t : Term) (v : Var) → set.has (vars_term t set.empty) v ≡ is_free_in_term v t
term_var_members t v = has-vars_term t set.empty v ∙ ap (λ b. is_free_in_term v t || b) (has-empty var_cmp v) ∙ or-false (is_free_in_term v t)

-- the set of the free variables of a formula
pub free_var_members : (f : Formula) (v : Var) → set.has (vars_formula f set.empty) v ≡ is_free_in v f
free_var_members f v = has-vars_formula f set.empty v ∙ ap (λ b. is_free_in v f || b) (has-empty var_cmp v) ∙ or-false (is_free_in v f)

-- the set of the predicate symbols of a formula
pub pred_members : (f : Formula) (p : Pred) → set.has (preds_formula f set.empty) p ≡ is_pred_in p f
pred_members f p = has-preds_formula f set.empty p ∙ ap (λ b. is_pred_in p f || b) (has-empty pred_cmp p) ∙ or-false (is_pred_in p f)
