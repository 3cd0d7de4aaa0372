-- Of well-formed terms, a most general unifier has well-formed terms, and so has a map that matches onto them.
use Rattle.std.proofs.Common.{◌≡◌, ℕ, zero, suc, Bool, true, false, eqb, ◌&&◌, ◌==◌, if◌then◌else◌, List, [], ◌∷◌, length, Option, Some, None, IfSome, subst}
use Rattle.std.specs.Prelude.{option_map, option_and_then}
use Rattle.std.specs.List.{AllByRecursion}
use Rattle.std.specs.Ordering.{eq_by_cmp}
use Rattle.std.specs.FinMap as fin
use Rattle.fol.specs.declared.symbols.Sym.{Sym}
use Rattle.fol.specs.declared.symbols.Var.{Var}
use Rattle.fol.specs.Syntax.{Term, free, bound, app, Terms, nil, cons}
use Rattle.fol.specs.Order.{var_cmp, sym_cmp, term_cmp}
use Rattle.fol.specs.Formed.{is_formed_sym, count_terms, is_formed_term_at, are_formed_terms_at, IsFormedTerm}
use Rattle.free_variables.specs.Occurrence.{is_free_in_term}
use Rattle.substitution.specs.Image.{image_term, IsFormedMap}
use Rattle.substitution.specs.Maps.{Map, only}
use Rattle.substitution.proofs.Booleans.{and_left, and_right}
use Rattle.substitution.proofs.ImageLaws.{formed_insert, formed_empty}
use Rattle.substitution.proofs.ImageFormed.{formed-image_term}
use Rattle.unify_laws.specs.Equations.{Equation, variables_of, replaced}
use Rattle.unify_laws.proofs.EachSide.{FormedSides}
use Rattle.unify_laws.specs.Unification.{Difference, same, clash, differs, or_later, difference, differences, first_difference, bound_first, by_difference, mgu_within, mgu}
use Rattle.unify_laws.specs.Matching.{with_variable, match_term, match_terms, match_each, match_onto}

-- the term that a variable has to become

abbrev IsFormedDifference : Difference → Type 0
IsFormedDifference same = Unit {0}
IsFormedDifference clash = Unit {0}
IsFormedDifference (differs x s) = IsFormedTerm s

formed_later : (d e : Difference) → IsFormedDifference d → IsFormedDifference e → IsFormedDifference (or_later d e)
formed_later same e h g = g
formed_later clash e h g = tt
formed_later (differs x s) e h g = h

two_variables : (x y : Var) (b : Bool) → IsFormedTerm (free y) → IsFormedDifference (if b then same else differs x (free y))
two_variables x y true h = tt
two_variables x y false h = h

two_indices : (b : Bool) → IsFormedDifference (if b then same else clash)
two_indices true = tt
two_indices false = tt

of_arguments : (b : Bool) (d : Difference) → IsFormedDifference d → IsFormedDifference (if b then d else clash)
of_arguments true d h = h
of_arguments false d h = tt

-- the arguments of a well-formed term
arguments : (f : Sym) (ts : Terms) → IsFormedTerm (app f ts) → are_formed_terms_at 0 ts ≡ true
arguments f ts h = and_right (is_formed_sym f && count_terms ts == f.arity) (are_formed_terms_at 0 ts) h

mutual
  formed_difference : (t u : Term) → IsFormedTerm t → IsFormedTerm u → IsFormedDifference (difference t u)
  formed_difference (free x) (free y) h g = two_variables x y (eq_by_cmp var_cmp x y) g
  formed_difference (free x) (bound j) h g = g
  formed_difference (free x) (app f us) h g = g
  formed_difference (bound i) (free y) h g = h
  formed_difference (app f ts) (free y) h g = h
  formed_difference (bound i) (bound j) h g = two_indices (eqb i j)
  formed_difference (app f ts) (app k us) h g = of_arguments (eq_by_cmp sym_cmp f k) (differences ts us) (formed_differences ts us (arguments f ts h) (arguments k us g))
  formed_difference (bound i) (app f us) h g = tt
  formed_difference (app f ts) (bound j) h g = tt

  formed_differences : (ts us : Terms) → are_formed_terms_at 0 ts ≡ true → are_formed_terms_at 0 us ≡ true → IsFormedDifference (differences ts us)
  formed_differences nil nil h g = tt
  formed_differences nil (cons u us) h g = tt
  formed_differences (cons t ts) nil h g = tt
  formed_differences (cons t ts) (cons u us) h g =
      formed_later (difference t u) (differences ts us)
      (formed_difference t u (and_left _ _ h) (and_left _ _ g))
      (formed_differences ts us (and_right (is_formed_term_at 0 t) _ h) (and_right (is_formed_term_at 0 u) _ g))

formed_first : (es : List Equation) → FormedSides es → IsFormedDifference (first_difference es)
formed_first [] h = tt
formed_first (e ∷ es) h = formed_later (difference e.0 e.1) (first_difference es) (formed_difference e.0 e.1 h.0.0 h.0.1) (formed_first es h.1)

-- one variable replaced, and the unifier of the rest

formed_only : (x : Var) (s : Term) → IsFormedTerm s → IsFormedMap (fin.get (only x s))
formed_only x s h = formed_insert fin.empty x s formed_empty h

formed_replaced : (x : Var) (s : Term) → IsFormedTerm s → (es : List Equation) → FormedSides es → FormedSides (replaced x s es)
formed_replaced x s term [] h = tt
formed_replaced x s term (e ∷ es) h = (
  (formed-image_term (fin.get (only x s)) e.0 0 (formed_only x s term) h.0.0, formed-image_term (fin.get (only x s)) e.1 0 (formed_only x s term) h.0.1),
  formed_replaced x s term es h.1,
)

abbrev IsFormedAnswer : Option Map → Type 0
IsFormedAnswer o = IfSome o (λ m. IsFormedMap (fin.get m))

formed_bound : (x : Var) (s : Term) → IsFormedTerm s → (o : Option Map) → IsFormedAnswer o → IsFormedAnswer (option_map (bound_first x s) o)
formed_bound x s term None h = h
formed_bound x s term (Some m) h = formed_insert m x (image_term (fin.get m) s) h (formed-image_term (fin.get m) s 0 h term)

formed_unless : (x : Var) (s : Term) (o : Option Map) → IsFormedAnswer o → (b : Bool) → IsFormedAnswer (if b then None else o)
formed_unless x s o h true = tt
formed_unless x s o h false = h

formed_by : (look : List Equation → Option Map) (es : List Equation) → FormedSides es → ((others : List Equation) → FormedSides others → IsFormedAnswer (look others))
    → (d : Difference) → IsFormedDifference d → IsFormedAnswer (by_difference look es d)
formed_by look es h later same g = formed_empty
formed_by look es h later clash g = tt
formed_by look es h later (differs x s) g =
    formed_unless x s (option_map (bound_first x s) (look (replaced x s es))) (formed_bound x s g (look (replaced x s es)) (later (replaced x s es) (formed_replaced x s g es h))) (is_free_in_term x s)

formed_within : (n : ℕ) (es : List Equation) → FormedSides es → IsFormedAnswer (mgu_within n es)
unfolding mgu_within
formed_within zero es h = tt
formed_within (suc n) es h = formed_by (mgu_within n) es h (formed_within n) (first_difference es) (formed_first es h)

formed_answer : (es : List Equation) → FormedSides es → IsFormedAnswer (mgu es)
unfolding mgu
formed_answer es h = formed_within (suc (length (variables_of es))) es h

pub formed_unifier : (es : List Equation) (m : Map) → FormedSides es → mgu es ≡ Some m → IsFormedMap (fin.get m)
formed_unifier es m h is = subst IsFormedAnswer is (formed_answer es h)

-- matching

formed_if : (m : Map) → IsFormedMap (fin.get m) → (b : Bool) → IsFormedAnswer (if b then Some m else None)
formed_if m h true = h
formed_if m h false = tt

formed_some : (o : Option Map) → IsFormedAnswer o → (b : Bool) → IsFormedAnswer (if b then o else None)
formed_some o h true = h
formed_some o h false = tt

formed_next : (next : Map → Option Map) (o : Option Map) → IsFormedAnswer o → ((m : Map) → IsFormedMap (fin.get m) → IsFormedAnswer (next m)) → IsFormedAnswer (option_and_then next o)
formed_next next None h later = tt
formed_next next (Some m) h later = later m h

formed_variable : (x : Var) (u : Term) (m : Map) → IsFormedTerm u → IsFormedMap (fin.get m) → (o : Option Term) → IsFormedAnswer (with_variable x u m o)
formed_variable x u m term h None = formed_insert m x u h term
formed_variable x u m term h (Some s) = formed_if m h (eq_by_cmp term_cmp s u)

mutual
  formed_match : (t u : Term) (m : Map) → IsFormedTerm u → IsFormedMap (fin.get m) → IsFormedAnswer (match_term t u m)
  formed_match (free x) u m term h = formed_variable x u m term h (fin.get m x)
  formed_match (bound i) (bound j) m term h = formed_if m h (eqb i j)
  formed_match (bound i) (free y) m term h = tt
  formed_match (bound i) (app g us) m term h = tt
  formed_match (app f ts) (app g us) m term h = formed_some (match_terms ts us m) (formed_matches ts us m (arguments g us term) h) (eq_by_cmp sym_cmp f g)
  formed_match (app f ts) (free y) m term h = tt
  formed_match (app f ts) (bound j) m term h = tt

  formed_matches : (ts us : Terms) (m : Map) → are_formed_terms_at 0 us ≡ true → IsFormedMap (fin.get m) → IsFormedAnswer (match_terms ts us m)
  formed_matches nil nil m terms h = h
  formed_matches nil (cons u us) m terms h = tt
  formed_matches (cons t ts) nil m terms h = tt
  formed_matches (cons t ts) (cons u us) m terms h =
      formed_next (match_terms ts us) (match_term t u m) (formed_match t u m (and_left _ _ terms) h) (λ n. formed_matches ts us n (and_right (is_formed_term_at 0 u) _ terms))

formed_each : (ts us : List Term) (m : Map) → AllByRecursion IsFormedTerm us → IsFormedMap (fin.get m) → IsFormedAnswer (match_each ts us m)
formed_each [] [] m terms h = h
formed_each [] (u ∷ us) m terms h = tt
formed_each (t ∷ ts) [] m terms h = tt
formed_each (t ∷ ts) (u ∷ us) m terms h = formed_next (match_each ts us) (match_term t u m) (formed_match t u m terms.0 h) (λ n. formed_each ts us n terms.1)

formed_onto : (ts us : List Term) → AllByRecursion IsFormedTerm us → IsFormedAnswer (match_onto ts us)
unfolding match_onto
formed_onto ts us terms = formed_each ts us fin.empty terms formed_empty

pub formed_matcher : (ts us : List Term) (m : Map) → AllByRecursion IsFormedTerm us → match_onto ts us ≡ Some m → IsFormedMap (fin.get m)
formed_matcher ts us m terms is = subst IsFormedAnswer is (formed_onto ts us terms)
