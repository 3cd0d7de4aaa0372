-- Images of terms and equations in which a term is put for a variable.
use Rattle.std.proofs.Common.{◌≡◌, ◌+◌, ◌≤◌, Bool, true, false, ◌||◌, List, [], ◌∷◌, Option, unwrap_or, refl, sym, ap, subst, ◌∙◌, arith}
use Rattle.std.specs.Ordering.{eq_by_cmp}
use Rattle.std.specs.FinMap as fin
use Rattle.std.proofs.lemmas.Bool.{both_ways, or_left, or_right}
use Rattle.fol.specs.declared.symbols.Var.{Var}
use Rattle.fol.specs.Syntax.{Term, free, bound, app, Terms, nil, cons, term_nodes, terms_nodes}
use Rattle.fol.specs.Order.{var_cmp}
use Rattle.free_variables.specs.Occurrence.{is_free_in_term, is_free_in_terms}
use Rattle.substitution.specs.Image.{image_term, image_terms, after}
use Rattle.substitution.specs.Maps.{Map, only}
use Rattle.substitution.proofs.ImageLaws.{image-image_term, agree_term, same_var, own_binding, other_binding}
use Rattle.unify_laws.specs.Equations.{Equation, is_free_in_equation, is_free_in_equations, put_for, replaced}
use Rattle.unify_laws.proofs.EachSide.{Solves}
use Rattle.unify_laws.specs.Unification.{bound_first}

abbrev pub Replacing : Type 0
Replacing = Var → Option Term

-- alternatives

pub either : {P : Type 0} (a b : Bool) → (a ≡ true → P) → (b ≡ true → P) → (a || b) ≡ true → P
either true b f g e = f refl
either false b f g e = g e

pub split : {P : Type 0} (b : Bool) → (b ≡ true → P) → (b ≡ false → P) → P
split true f g = f refl
split false f g = g refl

pub clash_of : {P : Type 0} (b : Bool) → b ≡ true → b ≡ false → P
clash_of b e h = absurd (both_ways b h e)

-- a variable with one term put for it

pub own_put : (x : Var) (s : Term) → put_for x s (free x) ≡ s
own_put x s = ap (λ o. unwrap_or o (free x)) (own_binding fin.empty x s)

pub other_put : (x v : Var) (s : Term) → eq_by_cmp var_cmp v x ≡ false → put_for x s (free v) ≡ free v
other_put x v s apart = ap (λ o. unwrap_or o (free v)) (other_binding fin.empty x v s apart ∙ fin.get-empty var_cmp v)

-- what both cases of a variable give
by_variable : (P : Var → Type 0) (x v : Var) → P x → (eq_by_cmp var_cmp v x ≡ false → P v) → P v
by_variable P x v own other = split (eq_by_cmp var_cmp v x) (λ e. subst P (sym (same_var v x e)) own) other

-- a map that makes a variable and a term equal sees no difference where the one is put for the other
pub image-put : (h : Replacing) (x : Var) (s : Term) → image_term h (free x) ≡ image_term h s → (t : Term) → image_term h (put_for x s t) ≡ image_term h t
image-put h x s same t =
    image-image_term (fin.get (only x s)) h t
    ∙ agree_term (after (fin.get (only x s)) h) h t (λ v _. by_variable (λ v. image_term h (put_for x s (free v)) ≡ image_term h (free v)) x v
    (ap (image_term h) (own_put x s) ∙ sym same)
    (λ apart. ap (image_term h) (other_put x v s apart)))

-- the same of equations
pub solves_replaced : (h : Replacing) (x : Var) (s : Term) → image_term h (free x) ≡ image_term h s → (es : List Equation) → Solves h es → Solves h (replaced x s es)
solves_replaced h x s same [] all = tt
solves_replaced h x s same (e ∷ es) all = (image-put h x s same e.0 ∙ all.0 ∙ sym (image-put h x s same e.1), solves_replaced h x s same es all.1)

pub solves_back : (h : Replacing) (x : Var) (s : Term) → image_term h (free x) ≡ image_term h s → (es : List Equation) → Solves h (replaced x s es) → Solves h es
solves_back h x s same [] all = tt
solves_back h x s same (e ∷ es) all = (sym (image-put h x s same e.0) ∙ all.0 ∙ image-put h x s same e.1, solves_back h x s same es all.1)

-- a map that does the same after another, which solves the equations, solves them
pub solves_after : (g h : Replacing) → ((t : Term) → image_term h (image_term g t) ≡ image_term h t) → (es : List Equation) → Solves g es → Solves h es
solves_after g h same [] all = tt
solves_after g h same (e ∷ es) all = (sym (same e.0) ∙ ap (image_term h) all.0 ∙ same e.1, solves_after g h same es all.1)

-- one binding first, and then a map

pub image-bound_first : (x : Var) (s : Term) (m : Map) (t : Term) → image_term (fin.get (bound_first x s m)) t ≡ image_term (fin.get m) (put_for x s t)
image-bound_first x s m t =
    agree_term (fin.get (bound_first x s m)) (after (fin.get (only x s)) (fin.get m)) t (λ v _. by_variable (λ v. image_term (fin.get (bound_first x s m)) (free v) ≡ image_term (fin.get m) (put_for x s (free v))) x v
    (ap (λ o. unwrap_or o (free x)) (own_binding m x (image_term (fin.get m) s)) ∙ sym (ap (image_term (fin.get m)) (own_put x s)))
    (λ apart. ap (λ o. unwrap_or o (free v)) (other_binding m x v (image_term (fin.get m) s) apart) ∙ sym (ap (image_term (fin.get m)) (other_put x v s apart))))
    ∙ sym (image-image_term (fin.get (only x s)) (fin.get m) t)

pub solves_bound_first : (x : Var) (s : Term) (m : Map) (es : List Equation) → Solves (fin.get m) (replaced x s es) → Solves (fin.get (bound_first x s m)) es
solves_bound_first x s m [] all = tt
solves_bound_first x s m (e ∷ es) all = (image-bound_first x s m e.0 ∙ all.0 ∙ sym (image-bound_first x s m e.1), solves_bound_first x s m es all.1)

-- a term's image is no smaller than that of a variable in it, and larger where it is no variable

mutual
  pub part_nodes : (h : Replacing) (x : Var) (t : Term) → is_free_in_term x t ≡ true → term_nodes (image_term h (free x)) ≤ term_nodes (image_term h t)
  part_nodes h x (free v) e = subst (λ w. term_nodes (image_term h (free x)) ≤ term_nodes (image_term h (free w))) (same_var x v e) (omega arith)
  part_nodes h x (bound i) e = cc
  part_nodes h x (app f ts) e = let below = parts_nodes h x ts e in omega (arith, below)

  pub parts_nodes : (h : Replacing) (x : Var) (ts : Terms) → is_free_in_terms x ts ≡ true → term_nodes (image_term h (free x)) ≤ terms_nodes (image_terms h ts)
  parts_nodes h x nil e = cc
  parts_nodes h x (cons t ts) e = either (is_free_in_term x t) (is_free_in_terms x ts)
      (λ first. let below = part_nodes h x t first in omega (arith, below))
      (λ later. let below = parts_nodes h x ts later in omega (arith, below))
      e

-- no map makes a variable equal to another term that it stands in
pub no_part : (h : Replacing) (x : Var) (s : Term) → (s ≡ free x → ⊥) → is_free_in_term x s ≡ true → image_term h (free x) ≡ image_term h s → ⊥
no_part h x (free v) apart e same = apart (ap free (sym (same_var x v e)))
no_part h x (bound i) apart e same = cc
no_part h x (app f ts) apart e same =
    let below = parts_nodes h x ts e in
    let nodes : term_nodes (image_term h (free x)) ≡ terms_nodes (image_terms h ts) + 1 = ap term_nodes same in
    omega (arith, below, nodes)

-- a variable of a term with s put for x is one of s, or another than x and one of the term

module _ {P : Type 0} (x v : Var) (s : Term) (new : is_free_in_term v s ≡ true → P) where
  mutual
    pub free_in_put : (t : Term) → (eq_by_cmp var_cmp v x ≡ false → is_free_in_term v t ≡ true → P) → is_free_in_term v (put_for x s t) ≡ true → P
    free_in_put (free w) old e = by_variable (λ w. (eq_by_cmp var_cmp v x ≡ false → is_free_in_term v (free w) ≡ true → P) → is_free_in_term v (put_for x s (free w)) ≡ true → P) x w
        (λ _ d. new (sym (ap (is_free_in_term v) (own_put x s)) ∙ d))
        (λ apart keep d.
        let here : eq_by_cmp var_cmp v w ≡ true = sym (ap (is_free_in_term v) (other_put x w s apart)) ∙ d in
        keep (ap (λ u. eq_by_cmp var_cmp u x) (same_var v w here) ∙ apart) here)
        old e
    free_in_put (bound i) old e = cc
    free_in_put (app f ts) old e = free_in_puts ts old e

    free_in_puts : (ts : Terms) → (eq_by_cmp var_cmp v x ≡ false → is_free_in_terms v ts ≡ true → P) → is_free_in_terms v (image_terms (fin.get (only x s)) ts) ≡ true → P
    free_in_puts nil old e = cc
    free_in_puts (cons t ts) old e = either (is_free_in_term v (put_for x s t)) (is_free_in_terms v (image_terms (fin.get (only x s)) ts))
        (free_in_put t (λ apart one. old apart (or_left (is_free_in_term v t) (is_free_in_terms v ts) one)))
        (free_in_puts ts (λ apart one. old apart (or_right (is_free_in_term v t) (is_free_in_terms v ts) one)))
        e

  pub free_in_replaced : (es : List Equation) → (eq_by_cmp var_cmp v x ≡ false → is_free_in_equations v es ≡ true → P) → is_free_in_equations v (replaced x s es) ≡ true → P
  free_in_replaced [] old e = cc
  free_in_replaced (d ∷ es) old e = either (is_free_in_equation v (put_for x s d.0, put_for x s d.1)) (is_free_in_equations v (replaced x s es))
      (either (is_free_in_term v (put_for x s d.0)) (is_free_in_term v (put_for x s d.1))
      (free_in_put d.0 (λ apart one. old apart (or_left (is_free_in_equation v d) (is_free_in_equations v es) (or_left (is_free_in_term v d.0) (is_free_in_term v d.1) one))))
      (free_in_put d.1 (λ apart one. old apart (or_left (is_free_in_equation v d) (is_free_in_equations v es) (or_right (is_free_in_term v d.0) (is_free_in_term v d.1) one)))))
      (free_in_replaced es (λ apart one. old apart (or_right (is_free_in_equation v d) (is_free_in_equations v es) one)))
      e
