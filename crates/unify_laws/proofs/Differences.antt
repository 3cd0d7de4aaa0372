-- What the first difference of two terms means for the maps that make them equal.
use Rattle.std.proofs.Common.{◌≡◌, ℕ, Bool, true, false, eqb, ◌||◌, if◌then◌else◌, List, [], ◌∷◌, refl, sym, ap, ◌∙◌}
use Rattle.std.specs.Ordering.{eq_by_cmp}
use Rattle.std.proofs.lemmas.Bool.{or_left, or_right, eqb-true, eq-eqb}
use Rattle.fol.specs.declared.symbols.Sym.{Sym}
use Rattle.fol.specs.declared.symbols.Var.{Var}
use Rattle.fol.specs.Syntax.{Term, free, bound, app, Terms, nil, cons}
use Rattle.fol.specs.Order.{var_cmp, sym_cmp}
use Rattle.fol.proofs.OrderTies.{sym_equality_same}
use Rattle.free_variables.specs.Occurrence.{is_free_in_term, is_free_in_terms}
use Rattle.substitution.specs.Image.{image_term, image_terms}
use Rattle.substitution.proofs.ImageLaws.{itself, same_var}
use Rattle.unify_laws.specs.Equations.{Equation, is_free_in_equation, is_free_in_equations}
use Rattle.unify_laws.proofs.EachSide.{Solves}
use Rattle.unify_laws.specs.Unification.{Difference, same, clash, differs, or_later, difference, differences, first_difference}
use Rattle.unify_laws.proofs.Images.{Replacing, clash_of}

-- What a difference means where Equal says which maps make the two sides equal, and Occurs which variables stand in them. A variable that
-- differs from a term has to become its image.
pub record IsBinding (Equal : Replacing → Type 0) (occurs : Var → Bool) (x : Var) (s : Term) : Type 0 where
  pub makes : (h : Replacing) → Equal h → image_term h (free x) ≡ image_term h s
  pub variable : occurs x ≡ true
  pub within : (v : Var) → is_free_in_term v s ≡ true → occurs v ≡ true
  pub apart : s ≡ free x → ⊥

abbrev pub Means : (Replacing → Type 0) → (Var → Bool) → Difference → Type 0
Means Equal occurs same = (h : Replacing) → Equal h
Means Equal occurs clash = (h : Replacing) → Equal h → ⊥
Means Equal occurs (differs x s) = IsBinding Equal occurs x s

-- of two parts, by the first of their differences
of_both : {First Second Whole : Replacing → Type 0} {first second whole : Var → Bool} (d e : Difference)
    → ((h : Replacing) → Whole h → First h) → ((h : Replacing) → Whole h → Second h) → ((h : Replacing) → First h → Second h → Whole h)
    → ((v : Var) → first v ≡ true → whole v ≡ true) → ((v : Var) → second v ≡ true → whole v ≡ true)
    → Means First first d → Means Second second e → Means Whole whole (or_later d e)
of_both same same one two both up on m n = λ h. both h (m h) (n h)
of_both same clash one two both up on m n = λ h all. n h (two h all)
of_both same (differs x s) one two both up on m n = record {
  makes = λ h all. n.makes h (two h all);
  variable = on x n.variable;
  within = λ v e. on v (n.within v e);
  apart = n.apart;
}
of_both clash e one two both up on m n = λ h all. m h (one h all)
of_both (differs x s) e one two both up on m n = record {
  makes = λ h all. m.makes h (one h all);
  variable = up x m.variable;
  within = λ v e. up v (m.within v e);
  apart = m.apart;
}

-- a variable and a term

abbrev Equals : Term → Term → Replacing → Type 0
Equals t u h = image_term h t ≡ image_term h u

abbrev occurs_in : Term → Term → Var → Bool
occurs_in t u v = is_free_in_term v t || is_free_in_term v u

on_left : (x : Var) (s : Term) → (s ≡ free x → ⊥) → IsBinding (Equals (free x) s) (occurs_in (free x) s) x s
on_left x s apart = record {
  makes = λ h e. e;
  variable = or_left (eq_by_cmp var_cmp x x) (is_free_in_term x s) (itself x);
  within = λ v e. or_right (eq_by_cmp var_cmp v x) (is_free_in_term v s) e;
  apart = apart;
}

on_right : (y : Var) (t : Term) → (t ≡ free y → ⊥) → IsBinding (Equals t (free y)) (occurs_in t (free y)) y t
on_right y t apart = record {
  makes = λ h e. sym e;
  variable = or_right (is_free_in_term y t) (eq_by_cmp var_cmp y y) (itself y);
  within = λ v e. or_left (is_free_in_term v t) (eq_by_cmp var_cmp v y) e;
  apart = apart;
}

other_variable : (x y : Var) → eq_by_cmp var_cmp x y ≡ false → free y ≡ free x → ⊥
other_variable x y apart e =
    let same : y ≡ x = cc in
    clash_of (eq_by_cmp var_cmp x y) (ap (eq_by_cmp var_cmp x) same ∙ itself x) apart

two_variables : (x y : Var) (b : Bool) → eq_by_cmp var_cmp x y ≡ b → Means (Equals (free x) (free y)) (occurs_in (free x) (free y)) (if b then same else differs x (free y))
two_variables x y true e = λ h. ap (λ v. image_term h (free v)) (same_var x y e)
two_variables x y false e = on_left x (free y) (other_variable x y e)

two_indices : (i j : ℕ) (b : Bool) → eqb i j ≡ b → Means (Equals (bound i) (bound j)) (occurs_in (bound i) (bound j)) (if b then same else clash)
two_indices i j true e = λ h. ap bound (eqb-true i j e)
two_indices i j false e = λ h d. let same_index : i ≡ j = cc in clash_of (eqb i j) (eq-eqb i j same_index) e

abbrev Equal_lists : Terms → Terms → Replacing → Type 0
Equal_lists ts us h = image_terms h ts ≡ image_terms h us

abbrev occurs_in_lists : Terms → Terms → Var → Bool
occurs_in_lists ts us v = is_free_in_terms v ts || is_free_in_terms v us

pub same_symbol : (f g : Sym) → eq_by_cmp sym_cmp f g ≡ true → f ≡ g
same_symbol f g = (sym_equality_same f g (eq_by_cmp sym_cmp f g) refl).0

in_heads : (a b c d : Bool) → (a || b) ≡ true → ((a || c) || (b || d)) ≡ true
in_heads true b c d e = refl
in_heads false true true d e = refl
in_heads false true false d e = refl
in_heads false false c d e = cc

in_tails : (a b c d : Bool) → (c || d) ≡ true → ((a || c) || (b || d)) ≡ true
in_tails true b c d e = refl
in_tails false b true d e = refl
in_tails false true false d e = refl
in_tails false false false d e = e

-- applications of one symbol differ as their arguments do
arguments : (f g : Sym) (ts us : Terms) (d : Difference) → Means (Equal_lists ts us) (occurs_in_lists ts us) d → (b : Bool) → eq_by_cmp sym_cmp f g ≡ b
    → Means (Equals (app f ts) (app g us)) (occurs_in (app f ts) (app g us)) (if b then d else clash)
arguments f g ts us same m true e = λ h i. app (same_symbol f g e i) (m h i)
arguments f g ts us clash m true e = λ h d. m h cc
arguments f g ts us (differs x s) m true e = record { makes = λ h d. m.makes h cc; variable = m.variable; within = m.within; apart = m.apart }
arguments f g ts us d m false e = λ h both. let one : f ≡ g = cc in clash_of (eq_by_cmp sym_cmp f g) ((sym_equality_same f g (eq_by_cmp sym_cmp f g) refl).1 one) e

mutual
  pub difference_means : (t u : Term) → Means (Equals t u) (occurs_in t u) (difference t u)
  difference_means (free x) (free y) = two_variables x y (eq_by_cmp var_cmp x y) refl
  difference_means (free x) (bound j) = on_left x (bound j) (λ e. cc)
  difference_means (free x) (app g us) = on_left x (app g us) (λ e. cc)
  difference_means (bound i) (free y) = on_right y (bound i) (λ e. cc)
  difference_means (app f ts) (free y) = on_right y (app f ts) (λ e. cc)
  difference_means (bound i) (bound j) = two_indices i j (eqb i j) refl
  difference_means (app f ts) (app g us) = arguments f g ts us (differences ts us) (differences_mean ts us) (eq_by_cmp sym_cmp f g) refl
  difference_means (bound i) (app g us) = λ h e. cc
  difference_means (app f ts) (bound j) = λ h e. cc

  differences_mean : (ts us : Terms) → Means (Equal_lists ts us) (occurs_in_lists ts us) (differences ts us)
  differences_mean nil nil = λ h. refl
  differences_mean nil (cons u us) = λ h e. cc
  differences_mean (cons t ts) nil = λ h e. cc
  differences_mean (cons t ts) (cons u us) =
      of_both (difference t u) (differences ts us)
      (λ h e. cc) (λ h e. cc) (λ h first later. λ i. cons (first i) (later i))
      (λ v. in_heads (is_free_in_term v t) (is_free_in_term v u) (is_free_in_terms v ts) (is_free_in_terms v us))
      (λ v. in_tails (is_free_in_term v t) (is_free_in_term v u) (is_free_in_terms v ts) (is_free_in_terms v us))
      (difference_means t u) (differences_mean ts us)

-- of equations
pub first_difference_means : (es : List Equation) → Means (λ h. Solves h es) (λ v. is_free_in_equations v es) (first_difference es)
first_difference_means [] = λ h. tt
first_difference_means (e ∷ es) =
    of_both (difference e.0 e.1) (first_difference es)
    (λ h all. all.0) (λ h all. all.1) (λ h first later. (first, later))
    (λ v one. or_left (is_free_in_equation v e) (is_free_in_equations v es) one)
    (λ v one. or_right (is_free_in_equation v e) (is_free_in_equations v es) one)
    (difference_means e.0 e.1) (first_difference_means es)
