-- What unification finds is a most general unifier, and it finds none only where there is none.
use Rattle.std.proofs.Common.{◌≡◌, ℕ, zero, suc, ◌<◌, Bool, true, false, not, ◌||◌, cond, if◌then◌else◌, List, [], ◌∷◌, ◌++◌, filter, length, Option, Some, None, is_some, refl, sym, ap, subst, ◌∙◌, arith}
use Rattle.std.proofs.lemmas.Bool.{or_left, or_right}
use Rattle.std.proofs.lemmas.List.Filters.{length-filter_both}
use Rattle.std.proofs.lemmas.List.Folds.{list_any-append}
use Rattle.std.proofs.lemmas.Map.Views.{any-filter_same}
use Rattle.free_variables.proofs.OccurrenceLaws.{is_free-var_list_term}
use Rattle.std.specs.List.{list_any}
use Rattle.std.specs.Prelude.{option_map}
use Rattle.std.specs.Ordering.{eq_by_cmp}
use Rattle.std.specs.FinMap as fin
use Rattle.fol.specs.declared.symbols.Var.{Var}
use Rattle.fol.specs.Syntax.{Term}
use Rattle.fol.specs.Order.{var_cmp}
use Rattle.free_variables.specs.Occurrence.{is_free_in_term, var_list_term}
use Rattle.substitution.specs.Image.{image_term}
use Rattle.substitution.specs.Maps.{Map}
use Rattle.substitution.proofs.ImageLaws.{same_var, image-empty_term, other_binding}
use Rattle.unify_laws.specs.Equations.{Equation, variables_of, is_free_in_equations, put_for, replaced}
use Rattle.unify_laws.proofs.EachSide.{Solves}
use Rattle.unify_laws.specs.Unification.{Difference, same, clash, differs, first_difference, bound_first, by_difference, mgu_within, mgu}
use Rattle.unify_laws.proofs.Images.{Replacing, either, split, clash_of, image-put, solves_replaced, image-bound_first, solves_bound_first, solves_after, no_part, free_in_put, free_in_replaced}
use Rattle.unify_laws.proofs.Differences.{IsBinding, Means, first_difference_means}

-- a most general unifier of the equations, that speaks of their variables alone
pub record IsMostGeneral (es : List Equation) (m : Map) : Type 0 where
  pub unifies : Solves (fin.get m) es
  pub general : (h : Replacing) → Solves h es → (t : Term) → image_term h (image_term (fin.get m) t) ≡ image_term h t
  pub bound : (v : Var) → is_some (fin.get m v) ≡ true → is_free_in_equations v es ≡ true
  pub own : (v : Var) (t : Term) → is_free_in_term v (image_term (fin.get m) t) ≡ true → (is_free_in_term v t || is_free_in_equations v es) ≡ true

-- the answer is right
abbrev pub IsRight : List Equation → Option Map → Type 0
IsRight es None = (h : Replacing) → Solves h es → ⊥
IsRight es (Some m) = IsMostGeneral es m

-- where the sides do not differ
nothing_bound : (es : List Equation) → ((h : Replacing) → Solves h es) → IsMostGeneral es fin.empty
nothing_bound es all = record {
  unifies = all (fin.get fin.empty);
  general = λ h _ t. ap (image_term h) (image-empty_term t);
  bound = λ v some. clash_of _ some (ap is_some (fin.get-empty var_cmp v));
  own = λ v t one. or_left (is_free_in_term v t) (is_free_in_equations v es) (sym (ap (is_free_in_term v) (image-empty_term t)) ∙ one);
}

-- where a variable has to become a term in which it does not stand
module _ (es : List Equation) (x : Var) (s : Term) (h : IsBinding (λ g. Solves g es) (λ v. is_free_in_equations v es) x s) (outside : is_free_in_term x s ≡ false) where
  -- a variable that is left is one of the equations, and another one
  left_over : (v : Var) → is_free_in_equations v (replaced x s es) ≡ true → (eq_by_cmp var_cmp v x ≡ false) × (is_free_in_equations v es ≡ true)
  left_over v = free_in_replaced x v s
      (λ in_term. (split (eq_by_cmp var_cmp v x) (λ e. clash_of (is_free_in_term x s) (sym (ap (λ w. is_free_in_term w s) (same_var v x e)) ∙ in_term) outside) (λ e. e), h.within v in_term))
      es (λ apart one. (apart, one))

  bound_more : (m : Map) → IsMostGeneral (replaced x s es) m → (v : Var) → is_some (fin.get (bound_first x s m) v) ≡ true → is_free_in_equations v es ≡ true
  bound_more m g v some =
      split (eq_by_cmp var_cmp v x)
      (λ e. ap (λ w. is_free_in_equations w es) (same_var v x e) ∙ h.variable)
      (λ apart. (left_over v (g.bound v (sym (ap is_some (other_binding m x v (image_term (fin.get m) s) apart)) ∙ some))).1)

  own_more : (m : Map) → IsMostGeneral (replaced x s es) m → (v : Var) (t : Term) → is_free_in_term v (image_term (fin.get (bound_first x s m)) t) ≡ true → (is_free_in_term v t || is_free_in_equations v es) ≡ true
  own_more m g v t one =
      either (is_free_in_term v (put_for x s t)) (is_free_in_equations v (replaced x s es))
      (free_in_put x v s (λ in_term. or_right (is_free_in_term v t) (is_free_in_equations v es) (h.within v in_term)) t (λ _ d. or_left (is_free_in_term v t) (is_free_in_equations v es) d))
      (λ d. or_right (is_free_in_term v t) (is_free_in_equations v es) (left_over v d).1)
      (g.own v (put_for x s t) (sym (ap (is_free_in_term v) (image-bound_first x s m t)) ∙ one))

  one_bound : (m : Map) → IsMostGeneral (replaced x s es) m → IsMostGeneral es (bound_first x s m)
  one_bound m g = record {
    unifies = solves_bound_first x s m es g.unifies;
    general = λ k all t.
        ap (image_term k) (image-bound_first x s m t)
        ∙ g.general k (solves_replaced k x s (h.makes k all) es all) (put_for x s t)
        ∙ image-put k x s (h.makes k all) t;
    bound = bound_more m g;
    own = own_more m g;
  }

  right_bound : (o : Option Map) → IsRight (replaced x s es) o → IsRight es (option_map (bound_first x s) o)
  right_bound None none = λ k all. none k (solves_replaced k x s (h.makes k all) es all)
  right_bound (Some m) g = one_bound m g

-- the same of the first difference

binding : (es : List Equation) (x : Var) (s : Term) → first_difference es ≡ differs x s → IsBinding (λ g. Solves g es) (λ v. is_free_in_equations v es) x s
binding es x s is = subst (Means (λ g. Solves g es) (λ v. is_free_in_equations v es)) is (first_difference_means es)

pub first_variable : (es : List Equation) (x : Var) (s : Term) → first_difference es ≡ differs x s → is_free_in_equations x es ≡ true
first_variable es x s is = (binding es x s is).variable

pub other_variables : (es : List Equation) (x : Var) (s : Term) → first_difference es ≡ differs x s → is_free_in_term x s ≡ false → (v : Var) → is_free_in_equations v (replaced x s es) ≡ true
    → (eq_by_cmp var_cmp v x ≡ false) × (is_free_in_equations v es ≡ true)
other_variables es x s is outside v = left_over es x s (binding es x s is) outside v

-- more numbers than variables

pub record IsLow (n : ℕ) (es : List Equation) : Type 0 where
  pub vars : List Var
  pub few : length vars < n
  pub all : (v : Var) → is_free_in_equations v es ≡ true → list_any (eq_by_cmp var_cmp v) vars ≡ true

-- the list has every variable of the equations
listed : (v : Var) (es : List Equation) → is_free_in_equations v es ≡ true → list_any (eq_by_cmp var_cmp v) (variables_of es) ≡ true
listed v [] e = e
listed v (d ∷ es) e =
    let own : list_any (eq_by_cmp var_cmp v) (var_list_term d.0 ++ var_list_term d.1) ≡ (is_free_in_term v d.0 || is_free_in_term v d.1) =
    list_any-append (eq_by_cmp var_cmp v) (var_list_term d.0) (var_list_term d.1) ∙ λ i. is_free-var_list_term v d.0 i || is_free-var_list_term v d.1 i in
    list_any-append (eq_by_cmp var_cmp v) (var_list_term d.0 ++ var_list_term d.1) (variables_of es)
    ∙ either (is_free_in_term v d.0 || is_free_in_term v d.1) (is_free_in_equations v es)
    (λ here. or_left _ (list_any (eq_by_cmp var_cmp v) (variables_of es)) (own ∙ here))
    (λ later. or_right (list_any (eq_by_cmp var_cmp v) (var_list_term d.0 ++ var_list_term d.1)) _ (listed v es later))
    e

pub low_above : (n : ℕ) (es : List Equation) → length (variables_of es) < n → IsLow n es
low_above n es above = record { vars = variables_of es; few = above; all = λ v. listed v es }

pub low : (es : List Equation) → IsLow (suc (length (variables_of es))) es
low es = low_above (suc (length (variables_of es))) es (omega arith)

abbrev others_of : Var → List Var → List Var
others_of x vs = filter (λ w. not (eq_by_cmp var_cmp x w)) vs

-- a list without one of its variables is shorter
fewer : (x : Var) (vs : List Var) → list_any (eq_by_cmp var_cmp x) vs ≡ true → length (others_of x vs) < length vs
fewer x [] e = cc
fewer x (v ∷ vs) e =
    elim (eq_by_cmp var_cmp x v) as (λ b. (b || list_any (eq_by_cmp var_cmp x) vs) ≡ true → length (cond (not b) (v ∷ others_of x vs) (others_of x vs)) < length (v ∷ vs)) [
      | true ↦ λ _.
          let others = length-filter_both (λ w. not (eq_by_cmp var_cmp x w)) (λ w. not (not (eq_by_cmp var_cmp x w))) (λ _. refl) vs in
          let here : length (others_of x vs) < length (v ∷ vs) = omega (arith, others) in
          here
      | false ↦ λ later.
          let others = fewer x vs later in
          let here : length (v ∷ others_of x vs) < length (v ∷ vs) = omega (arith, others) in
          here
    ] e

-- another variable stays in it
other_stays : (x v : Var) (vs : List Var) → eq_by_cmp var_cmp v x ≡ false → list_any (eq_by_cmp var_cmp v) vs ≡ true → list_any (eq_by_cmp var_cmp v) (others_of x vs) ≡ true
other_stays x v vs apart one =
    any-filter_same (eq_by_cmp var_cmp v) (λ w. not (eq_by_cmp var_cmp x w)) true
    (λ w e. ap not (split (eq_by_cmp var_cmp x w) (λ tie. clash_of (eq_by_cmp var_cmp v x) (ap (eq_by_cmp var_cmp v) (same_var x w tie) ∙ e) apart) (λ f. f))) vs
    ∙ one

pub lower : (n : ℕ) (es : List Equation) (x : Var) (s : Term) → IsBinding (λ g. Solves g es) (λ v. is_free_in_equations v es) x s → is_free_in_term x s ≡ false
    → IsLow (suc n) es → IsLow n (replaced x s es)
lower n es x s h outside l = record {
  vars = others_of x l.vars;
  few = omega (arith, fewer x l.vars (l.all x h.variable), l.few);
  all = λ v one. let old = left_over es x s h outside v one in other_stays x v l.vars old.0 (l.all v old.1);
}

-- by the first difference

by_outside : (look : List Equation → Option Map) (es : List Equation) (x : Var) (s : Term) → IsBinding (λ g. Solves g es) (λ v. is_free_in_equations v es) x s
    → (is_free_in_term x s ≡ false → IsRight (replaced x s es) (look (replaced x s es)))
    → (b : Bool) → is_free_in_term x s ≡ b → IsRight es (if b then None else option_map (bound_first x s) (look (replaced x s es)))
by_outside look es x s h right true inside = λ k all. no_part k x s h.apart inside (h.makes k all)
by_outside look es x s h right false outside = right_bound es x s h outside (look (replaced x s es)) (right outside)

by_means : (n : ℕ) (look : List Equation → Option Map) (es : List Equation) → IsLow (suc n) es → ((others : List Equation) → IsLow n others → IsRight others (look others))
    → (d : Difference) → Means (λ g. Solves g es) (λ v. is_free_in_equations v es) d → IsRight es (by_difference look es d)
by_means n look es l right same m = nothing_bound es m
by_means n look es l right clash m = m
by_means n look es l right (differs x s) m = by_outside look es x s m (λ outside. right (replaced x s es) (lower n es x s m outside l)) (is_free_in_term x s) refl

right_within : (n : ℕ) (es : List Equation) → IsLow n es → IsRight es (mgu_within n es)
unfolding mgu_within
right_within zero es l = absurd (omega (arith, l.few))
right_within (suc n) es l = by_means n (mgu_within n) es l (right_within n) (first_difference es) (first_difference_means es)

pub right : (es : List Equation) → IsRight es (mgu es)
unfolding mgu
right es = right_within (suc (length (variables_of es))) es (low es)

-- the clauses of it

pub most_general : (es : List Equation) (m : Map) → mgu es ≡ Some m → IsMostGeneral es m
most_general es m is = subst (IsRight es) is (right es)

pub none_there : (es : List Equation) → mgu es ≡ None → (h : Replacing) → Solves h es → ⊥
none_there es is = subst (IsRight es) is (right es)

pub none_found : (es : List Equation) → ((h : Replacing) → Solves h es → ⊥) → mgu es ≡ None
none_found es none = elim (mgu es) as (λ o. IsRight es o → o ≡ None) [
  | None ↦ λ _. refl
  | Some m ↦ λ g. absurd (none (fin.get m) g.unifies)
] (right es)

-- a map that does the same to a term before and after it is a unifier
pub through : (es : List Equation) (m : Map) → mgu es ≡ Some m → (h : Replacing) → ((t : Term) → image_term h (image_term (fin.get m) t) ≡ image_term h t) → Solves h es
through es m is h alike = solves_after (fin.get m) h alike es (most_general es m is).unifies

-- a most general unifier changes nothing in what it has given
pub idempotent : (es : List Equation) (m : Map) → mgu es ≡ Some m → (t : Term) → image_term (fin.get m) (image_term (fin.get m) t) ≡ image_term (fin.get m) t
idempotent es m is = let g = most_general es m is in g.general (fin.get m) g.unifies
