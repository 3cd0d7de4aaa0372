-- Which variables are free in a formula, and which predicate symbols stand in it.
--     is_free_in, is_pred_in      whether one does
--     var_list, pred_list      one for each occurrence, from the left
--     vars_formula, preds_formula      a set with those of a formula added
use Rattle.std.specs.Prelude.{Bool, false, ◌||◌, List, [], ◌∷◌, ◌++◌}
use Rattle.std.specs.Ordering.{eq_by_cmp}
use Rattle.fol.specs.declared.symbols.Var.{Var}
use Rattle.fol.specs.Syntax.{Term, free, bound, app, Terms, nil, cons, Pred, Formula, atom, top, bot, not, and, or, imp, all, ex}
use Rattle.fol.specs.Order.{var_cmp, pred_cmp}
use Rattle.finite.specs.Finite as set
use Rattle.free_variables.specs.Sets.{VarSet, SymSet}

-- whether v stands in a term
abbrev mutual
  pub is_free_in_term : Var → Term → Bool
  is_free_in_term v (free w) = eq_by_cmp var_cmp v w
  is_free_in_term v (bound i) = false
  is_free_in_term v (app s ts) = is_free_in_terms v ts

  pub is_free_in_terms : Var → Terms → Bool
  is_free_in_terms v nil = false
  is_free_in_terms v (cons t ts) = is_free_in_term v t || is_free_in_terms v ts

-- whether v is free in a formula
abbrev pub is_free_in : Var → Formula → Bool
is_free_in v (atom s ts) = is_free_in_terms v ts
is_free_in v top = false
is_free_in v bot = false
is_free_in v (not f) = is_free_in v f
is_free_in v (and f g) = is_free_in v f || is_free_in v g
is_free_in v (or f g) = is_free_in v f || is_free_in v g
is_free_in v (imp f g) = is_free_in v f || is_free_in v g
is_free_in v (all f) = is_free_in v f
is_free_in v (ex f) = is_free_in v f

-- whether p is the predicate symbol of an atom of a formula, where bodies aren't looked into
abbrev pub is_pred_in : Pred → Formula → Bool
is_pred_in p (atom q ts) = eq_by_cmp pred_cmp p q
is_pred_in p top = false
is_pred_in p bot = false
is_pred_in p (not f) = is_pred_in p f
is_pred_in p (and f g) = is_pred_in p f || is_pred_in p g
is_pred_in p (or f g) = is_pred_in p f || is_pred_in p g
is_pred_in p (imp f g) = is_pred_in p f || is_pred_in p g
is_pred_in p (all f) = is_pred_in p f
is_pred_in p (ex f) = is_pred_in p f

-- the variables of a term, one for each occurrence
abbrev mutual
  pub var_list_term : Term → List Var
  var_list_term (free v) = v ∷ []
  var_list_term (bound i) = []
  var_list_term (app s ts) = var_list_terms ts

  pub var_list_terms : Terms → List Var
  var_list_terms nil = []
  var_list_terms (cons t ts) = var_list_term t ++ var_list_terms ts

-- the free variables of a formula, one for each occurrence
abbrev pub var_list : Formula → List Var
var_list (atom s ts) = var_list_terms ts
var_list top = []
var_list bot = []
var_list (not f) = var_list f
var_list (and f g) = var_list f ++ var_list g
var_list (or f g) = var_list f ++ var_list g
var_list (imp f g) = var_list f ++ var_list g
var_list (all f) = var_list f
var_list (ex f) = var_list f

-- the predicate symbols of a formula, one for each atom
abbrev pub pred_list : Formula → List Pred
pred_list (atom p ts) = p ∷ []
pred_list top = []
pred_list bot = []
pred_list (not f) = pred_list f
pred_list (and f g) = pred_list f ++ pred_list g
pred_list (or f g) = pred_list f ++ pred_list g
pred_list (imp f g) = pred_list f ++ pred_list g
pred_list (all f) = pred_list f
pred_list (ex f) = pred_list f

-- a set with the variables of a term
abbrev pub vars_term : Term → VarSet → VarSet
vars_term t vs = set.adds_each vs (var_list_term t)

-- a set with the free variables of a formula
abbrev pub vars_formula : Formula → VarSet → VarSet
vars_formula f vs = set.adds_each vs (var_list f)

-- a set with the predicate symbols of a formula
abbrev pub preds_formula : Formula → SymSet → SymSet
preds_formula f ss = set.adds_each ss (pred_list f)
