-- A most general unifier that binds no variable to itself has terms for variables of the equations alone, brings in no others, and has
-- well-formed terms, since one that has all this is made the same by it.
use Rattle.std.proofs.Common.{◌≡◌, Bool, true, false, ◌||◌, ◌&&◌, ◌==◌, List, [], ◌∷◌, Option, Some, None, unwrap_or, refl, sym, ap, subst, ◌∙◌}
use Rattle.std.specs.Prelude.{is_some, IfSome}
use Rattle.std.specs.FinMap as fin
use Rattle.std.specs.List.{AllByRecursion}
use Rattle.std.proofs.lemmas.Bool.{or_left, or_right}
use Rattle.std.proofs.lemmas.List.Elements.{recursion_from_All}
use Rattle.fol.specs.declared.symbols.Var.{Var}
use Rattle.fol.specs.Syntax.{Term, free, bound, app, Terms, nil, cons}
use Rattle.fol.specs.Formed.{is_formed_sym, count_terms, is_formed_term_at, are_formed_terms_at, IsFormedTerm, IsFormedVar}
use Rattle.free_variables.specs.Occurrence.{is_free_in_term, is_free_in_terms}
use Rattle.free_variables.proofs.FormedMembers.{formed_var_of_term}
use Rattle.substitution.specs.Image.{image_term, image_terms, IsFormedMap}
use Rattle.substitution.specs.Maps.{Map}
use Rattle.substitution.proofs.Booleans.{and_left, and_right, and_both}
use Rattle.substitution.proofs.ImageLaws.{itself, same_var}
use Rattle.substitution.proofs.ImageFormed.{formed-image_term, count-image_terms}
use Rattle.unify_laws.specs.Equations.{Equation, is_free_in_equation, is_free_in_equations, AreFormed}

pub some_of : {X : Type 0} (o : Option X) → (o ≡ None → ⊥) → (x : X) × (o ≡ Some x)
some_of None h = absurd (h refl)
some_of (Some x) h = (x, refl)

either : {P : Type 0} (a b : Bool) → (a ≡ true → P) → (b ≡ true → P) → (a || b) ≡ true → P
either true b f g e = f refl
either false b f g e = g e

split : {P : Type 0} (b : Bool) → (b ≡ true → P) → (b ≡ false → P) → P
split true f g = f refl
split false f g = g refl

-- a variable that stays stands in the image

mutual
  free_stays : (g : Var → Option Term) (v : Var) → g v ≡ None → (t : Term) → is_free_in_term v t ≡ true → is_free_in_term v (image_term g t) ≡ true
  free_stays g v none (free w) e =
      let is : v ≡ w = same_var v w e in
      let stays : image_term g (free v) ≡ free v = ap (λ o. unwrap_or o (free v)) none in
      ap (λ x. is_free_in_term v (image_term g (free x))) (sym is) ∙ ap (is_free_in_term v) stays ∙ itself v
  free_stays g v none (bound i) e = cc
  free_stays g v none (app f ts) e = free_stay g v none ts e

  free_stay : (g : Var → Option Term) (v : Var) → g v ≡ None → (ts : Terms) → is_free_in_terms v ts ≡ true → is_free_in_terms v (image_terms g ts) ≡ true
  free_stay g v none nil e = cc
  free_stay g v none (cons t ts) e = either (is_free_in_term v t) (is_free_in_terms v ts)
      (λ one. or_left (is_free_in_term v (image_term g t)) (is_free_in_terms v (image_terms g ts)) (free_stays g v none t one))
      (λ others. or_right (is_free_in_term v (image_term g t)) (is_free_in_terms v (image_terms g ts)) (free_stay g v none ts others))
      e

-- a term is well formed where its image and its variables are

mutual
  formed_back : (g : Var → Option Term) (t : Term) → is_formed_term_at 0 (image_term g t) ≡ true → ((v : Var) → is_free_in_term v t ≡ true → IsFormedVar v) → is_formed_term_at 0 t ≡ true
  formed_back g (free w) h own = own w (itself w)
  formed_back g (bound i) h own = h
  formed_back g (app f ts) h own =
      let count = subst (λ n. (is_formed_sym f && n == f.arity) ≡ true) (count-image_terms g ts) (and_left (is_formed_sym f && count_terms (image_terms g ts) == f.arity) (are_formed_terms_at 0 (image_terms g ts)) h) in
      and_both (is_formed_sym f && count_terms ts == f.arity) (are_formed_terms_at 0 ts) count (formed_backs g ts (and_right (is_formed_sym f && count_terms (image_terms g ts) == f.arity) (are_formed_terms_at 0 (image_terms g ts)) h) own)

  formed_backs : (g : Var → Option Term) (ts : Terms) → are_formed_terms_at 0 (image_terms g ts) ≡ true → ((v : Var) → is_free_in_terms v ts ≡ true → IsFormedVar v) → are_formed_terms_at 0 ts ≡ true
  formed_backs g nil h own = refl
  formed_backs g (cons t ts) h own =
      and_both (is_formed_term_at 0 t) (are_formed_terms_at 0 ts)
      (formed_back g t (and_left _ (are_formed_terms_at 0 (image_terms g ts)) h) (λ v e. own v (or_left (is_free_in_term v t) (is_free_in_terms v ts) e)))
      (formed_backs g ts (and_right (is_formed_term_at 0 (image_term g t)) _ h) (λ v e. own v (or_right (is_free_in_term v t) (is_free_in_terms v ts) e)))

formed_variables : (es : List Equation) → AllByRecursion (λ (e : Equation). IsFormedTerm e.0 × IsFormedTerm e.1) es → (v : Var) → is_free_in_equations v es ≡ true → IsFormedVar v
formed_variables [] h v e = cc
formed_variables (d ∷ es) h v e = either (is_free_in_equation v d) (is_free_in_equations v es)
    (either (is_free_in_term v d.0) (is_free_in_term v d.1) (formed_var_of_term v d.0 0 h.0.0) (formed_var_of_term v d.1 0 h.0.1))
    (formed_variables es h.1 v)
    e

-- g is a unifier that has terms for variables of the equations alone and brings in no others, and m is at least as general
module _ (es : List Equation) (g : Map)
    (bound_g : (v : Var) → is_some (fin.get g v) ≡ true → is_free_in_equations v es ≡ true)
    (own_g : (v : Var) (t : Term) → is_free_in_term v (image_term (fin.get g) t) ≡ true → (is_free_in_term v t || is_free_in_equations v es) ≡ true)
    (m : Map) (general : (t : Term) → image_term (fin.get g) (image_term (fin.get m) t) ≡ image_term (fin.get g) t) where
  none_for : (v : Var) (o : Option Term) → fin.get g v ≡ o → is_free_in_equations v es ≡ false → fin.get g v ≡ None
  none_for v None e out = e
  none_for v (Some t) e out = let in_es = bound_g v (ap is_some e) in cc

  outside : (v : Var) → is_free_in_equations v es ≡ false → fin.get g v ≡ None
  outside v out = none_for v (fin.get g v) refl out

  pub own : (v : Var) (t : Term) → is_free_in_term v (image_term (fin.get m) t) ≡ true → (is_free_in_term v t || is_free_in_equations v es) ≡ true
  own v t e = split (is_free_in_equations v es)
      (λ inside. or_right (is_free_in_term v t) (is_free_in_equations v es) inside)
      (λ out. own_g v t (sym (ap (is_free_in_term v) (general t)) ∙ free_stays (fin.get g) v (outside v out) (image_term (fin.get m) t) e))

  -- a term of which g makes a variable outside the equations is this variable
  is_variable : (x : Var) → is_free_in_equations x es ≡ false → (s : Term) → image_term (fin.get g) s ≡ free x → s ≡ free x
  is_variable x out s e =
      either (is_free_in_term x s) (is_free_in_equations x es) (λ here. by_shape s e here) (λ inside. let both = sym inside ∙ out in cc)
      (own_g x s (ap (is_free_in_term x) e ∙ itself x))
    where
      by_shape : (s : Term) → image_term (fin.get g) s ≡ free x → is_free_in_term x s ≡ true → s ≡ free x
      by_shape (free z) d here = ap free (sym (same_var x z here))
      by_shape (bound i) d here = cc
      by_shape (app f ts) d here = cc

  module _ (proper : (x : Var) (t : Term) → fin.get m x ≡ Some t → t ≡ free x → ⊥) where
    bound_some : (x : Var) (o : Option Term) → fin.get m x ≡ o → is_some (fin.get m x) ≡ true → is_free_in_equations x es ≡ false → ⊥
    bound_some x None e some out = let none : false ≡ true = sym (ap is_some e) ∙ some in cc
    bound_some x (Some s) e some out =
        let stays : image_term (fin.get g) (free x) ≡ free x = ap (λ o. unwrap_or o (free x)) (outside x out) in
        let image : image_term (fin.get m) (free x) ≡ s = ap (λ o. unwrap_or o (free x)) e in
        proper x s e (is_variable x out s (ap (image_term (fin.get g)) (sym image) ∙ general (free x) ∙ stays))

    pub bound_only : (x : Var) → is_some (fin.get m x) ≡ true → is_free_in_equations x es ≡ true
    bound_only x some = split (is_free_in_equations x es) (λ inside. inside) (λ out. absurd (bound_some x (fin.get m x) refl some out))

    module _ (formed : AreFormed es) (formed_g : IsFormedMap (fin.get g)) where
      formed_variable : (v : Var) → is_free_in_equations v es ≡ true → IsFormedVar v
      formed_variable = formed_variables es (recursion_from_All (λ (e : Equation). IsFormedTerm e.0 × IsFormedTerm e.1) es formed)

      formed_at : (x : Var) (o : Option Term) → fin.get m x ≡ o → IfSome o IsFormedTerm
      formed_at x None e = tt
      formed_at x (Some s) e =
          let inside = bound_only x (ap is_some e) in
          let image : image_term (fin.get m) (free x) ≡ s = ap (λ o. unwrap_or o (free x)) e in
          let whole : is_formed_term_at 0 (image_term (fin.get g) (free x)) ≡ true = formed-image_term (fin.get g) (free x) 0 formed_g (formed_variable x inside) in
          formed_back (fin.get g) s (ap (λ t. is_formed_term_at 0 (image_term (fin.get g) t)) (sym image) ∙ ap (is_formed_term_at 0) (general (free x)) ∙ whole)
          (λ v here. either (is_free_in_term v (free x)) (is_free_in_equations v es)
          (λ same. subst IsFormedVar (sym (same_var v x same)) (formed_variable x inside))
          (formed_variable v)
          (own v (free x) (ap (is_free_in_term v) image ∙ here)))

      pub formed_map : IsFormedMap (fin.get m)
      formed_map x = formed_at x (fin.get m x) refl
