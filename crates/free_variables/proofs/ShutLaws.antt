-- Where no variable is free, none is found.
use Rattle.std.proofs.Common.{◌≡◌, Bool, true, false, ◌||◌, List, [], ◌++◌, refl, sym, ap, ◌∙◌, append-nil}
use Rattle.fol.specs.declared.symbols.Var.{Var}
use Rattle.fol.specs.Syntax.{Term, free, bound, app, Terms, nil, cons, Formula, atom, top, bot, not, and, or, imp, all, ex}
use Rattle.fol.specs.Facts.{is_term_open, are_terms_open, is_open}
use Rattle.free_variables.specs.Occurrence.{is_free_in, is_free_in_term, is_free_in_terms, var_list, var_list_term, var_list_terms}

-- neither of two parts where no variable is free has one
pub or_left : (a b : Bool) → (a || b) ≡ false → a ≡ false
or_left true b h = h
or_left false b h = refl

pub or_right : (a b : Bool) → (a || b) ≡ false → b ≡ false
or_right true b h = cc
or_right false b h = h

or_neither : (a b : Bool) → a ≡ false → b ≡ false → (a || b) ≡ false
or_neither a b p q = rw p q

none_both : {K : Type 0} (xs ys : List K) → xs ≡ [] → ys ≡ [] → xs ++ ys ≡ []
none_both xs ys p q = rw p q

mutual
  pub free-shut_term : (v : Var) (t : Term) → is_term_open t ≡ false → is_free_in_term v t ≡ false
  free-shut_term v (free w) h = cc
  free-shut_term v (bound i) h = refl
  free-shut_term v (app s ts) h = free-shut_terms v ts h

  pub free-shut_terms : (v : Var) (ts : Terms) → are_terms_open ts ≡ false → is_free_in_terms v ts ≡ false
  free-shut_terms v nil h = refl
  free-shut_terms v (cons t ts) h =
      or_neither _ _ (free-shut_term v t (or_left _ _ h)) (free-shut_terms v ts (or_right (is_term_open t) _ h))

pub free-shut : (v : Var) (f : Formula) → is_open f ≡ false → is_free_in v f ≡ false
free-shut v (atom s ts) h = free-shut_terms v ts h
free-shut v top h = refl
free-shut v bot h = refl
free-shut v (not f) h = free-shut v f h
free-shut v (and f g) h = or_neither _ _ (free-shut v f (or_left _ _ h)) (free-shut v g (or_right (is_open f) _ h))
free-shut v (or f g) h = or_neither _ _ (free-shut v f (or_left _ _ h)) (free-shut v g (or_right (is_open f) _ h))
free-shut v (imp f g) h = or_neither _ _ (free-shut v f (or_left _ _ h)) (free-shut v g (or_right (is_open f) _ h))
free-shut v (all f) h = free-shut v f h
free-shut v (ex f) h = free-shut v f h

mutual
  pub list-shut_term : (t : Term) → is_term_open t ≡ false → var_list_term t ≡ []
  list-shut_term (free w) h = cc
  list-shut_term (bound i) h = refl
  list-shut_term (app s ts) h = list-shut_terms ts h

  pub list-shut_terms : (ts : Terms) → are_terms_open ts ≡ false → var_list_terms ts ≡ []
  list-shut_terms nil h = refl
  list-shut_terms (cons t ts) h =
      none_both _ _ (list-shut_term t (or_left _ _ h)) (list-shut_terms ts (or_right (is_term_open t) _ h))

pub list-shut : (f : Formula) → is_open f ≡ false → var_list f ≡ []
list-shut (atom s ts) h = list-shut_terms ts h
list-shut top h = refl
list-shut bot h = refl
list-shut (not f) h = list-shut f h
list-shut (and f g) h = none_both _ _ (list-shut f (or_left _ _ h)) (list-shut g (or_right (is_open f) _ h))
list-shut (or f g) h = none_both _ _ (list-shut f (or_left _ _ h)) (list-shut g (or_right (is_open f) _ h))
list-shut (imp f g) h = none_both _ _ (list-shut f (or_left _ _ h)) (list-shut g (or_right (is_open f) _ h))
list-shut (all f) h = list-shut f h
list-shut (ex f) h = list-shut f h

-- the same, of what a call answers on whether a variable is free
pub shut_free : (v : Var) (f : Formula) (b : Bool) → b ≡ is_open f → b ≡ false → is_free_in v f ≡ false
shut_free v f b is shut = free-shut v f (sym is ∙ shut)

pub shut_free_term : (v : Var) (t : Term) (b : Bool) → b ≡ is_term_open t → b ≡ false → is_free_in_term v t ≡ false
shut_free_term v t b is shut = free-shut_term v t (sym is ∙ shut)

pub shut_free_terms : (v : Var) (ts : Terms) (b : Bool) → b ≡ are_terms_open ts → b ≡ false → is_free_in_terms v ts ≡ false
shut_free_terms v ts b is shut = free-shut_terms v ts (sym is ∙ shut)

-- and of a list to which the variables are appended
pub shut_list : (vs : List Var) (f : Formula) (b : Bool) → b ≡ is_open f → b ≡ false → vs ++ var_list f ≡ vs
shut_list vs f b is shut = ap (λ ws. vs ++ ws) (list-shut f (sym is ∙ shut)) ∙ append-nil vs

pub shut_list_term : (vs : List Var) (t : Term) (b : Bool) → b ≡ is_term_open t → b ≡ false → vs ++ var_list_term t ≡ vs
shut_list_term vs t b is shut = ap (λ ws. vs ++ ws) (list-shut_term t (sym is ∙ shut)) ∙ append-nil vs

pub shut_list_terms : (vs : List Var) (ts : Terms) (b : Bool) → b ≡ are_terms_open ts → b ≡ false → vs ++ var_list_terms ts ≡ vs
shut_list_terms vs ts b is shut = ap (λ ws. vs ++ ws) (list-shut_terms ts (sym is ∙ shut)) ∙ append-nil vs
