-- Worked examples. The most general unifier of X and f(Y), and of Y and a, puts f(a) for X and a for Y. X and f(X) have none, nor f(X) and
-- g(X). Yet f(X) matches f(f(X)), where X becomes f(X); and X, X does not match a, b.
use Rattle.std.proofs.Common.{◌≡◌, List, [], ◌∷◌, Some, None, refl, ap, ◌∙◌}
use Rattle.std.specs.Prelude.{option_map, option_and_then}
use Rattle.std.specs.FinMap as fin
use Rattle.fol.specs.declared.symbols.Var.{Var}
use Rattle.fol.specs.declared.symbols.Var.TheVariants.{Word}
use Rattle.fol.specs.Syntax.{Term, free, app, nil, cons}
use Rattle.fol.specs.Order.{var_cmp}
use Rattle.substitution.specs.Image.{image_term}
use Rattle.substitution.specs.Maps.{Map}
use Rattle.substitution.proofs.ImageLaws.{own_binding}
use Rattle.unify_laws.specs.Equations.{Equation, put_for, replaced}
use Rattle.unify_laws.specs.Unification.{bound_first, mgu}
use Rattle.unify_laws.specs.Matching.{with_variable, match_terms, match_each, match_onto}
use Rattle.unify_laws.proofs.Images.{own_put, other_put, image-bound_first}
use Rattle.unify_laws.proofs.Unrolled.{mgu-unrolled}

abbrev x : Var
x = Word (88 ∷ [])

abbrev y : Var
y = Word (89 ∷ [])

abbrev f : Term → Term
f t = app (record { name = 102 ∷ []; arity = 1 }) (cons t nil)

abbrev g : Term → Term
g t = app (record { name = 103 ∷ []; arity = 1 }) (cons t nil)

abbrev a : Term
a = app (record { name = 97 ∷ []; arity = 0 }) nil

abbrev b : Term
b = app (record { name = 98 ∷ []; arity = 0 }) nil

-- two variables, one after the other

abbrev two : List Equation
two = (free x, f (free y)) ∷ (free y, a) ∷ []

abbrev one : List Equation
one = (f (free y), f (free y)) ∷ (free y, a) ∷ []

abbrev solved : List Equation
solved = (f a, f a) ∷ (a, a) ∷ []

without_x : replaced x (f (free y)) two ≡ one
without_x =
    let s = f (free y) in
    let kept : put_for x s (free y) ≡ free y = other_put x y s refl in
    λ i. (own_put x s i, f (kept i)) ∷ (kept i, a) ∷ []

without_y : replaced y a one ≡ solved
without_y = let now = own_put y a in λ i. (f (now i), f (now i)) ∷ (now i, a) ∷ []

mgu-one : mgu one ≡ Some (bound_first y a fin.empty)
mgu-one = mgu-unrolled one ∙ ap (λ es. option_map (bound_first y a) (mgu es)) without_y ∙ ap (option_map (bound_first y a)) (mgu-unrolled solved)

abbrev m : Map
m = bound_first x (f (free y)) (bound_first y a fin.empty)

pub mgu-two : mgu two ≡ Some m
mgu-two = mgu-unrolled two ∙ ap (λ es. option_map (bound_first x (f (free y))) (mgu es)) without_x ∙ ap (option_map (bound_first x (f (free y)))) mgu-one

y-becomes : image_term (fin.get (bound_first y a fin.empty)) (free y) ≡ a
y-becomes = image-bound_first y a fin.empty (free y) ∙ ap (image_term (fin.get fin.empty)) (own_put y a)

pub x-becomes : image_term (fin.get m) (free x) ≡ f a
x-becomes =
    image-bound_first x (f (free y)) (bound_first y a fin.empty) (free x)
    ∙ ap (image_term (fin.get (bound_first y a fin.empty))) (own_put x (f (free y)))
    ∙ ap f y-becomes

-- no unifier

pub inside : mgu ((free x, f (free x)) ∷ []) ≡ None
inside = mgu-unrolled ((free x, f (free x)) ∷ [])

pub two_symbols : mgu ((f (free x), g (free x)) ∷ []) ≡ None
two_symbols = mgu-unrolled ((f (free x), g (free x)) ∷ [])

-- matching

pub onto_itself : match_onto (f (free x) ∷ []) (f (f (free x)) ∷ []) ≡ Some (fin.insert fin.empty x (f (free x)))
unfolding match_onto
onto_itself = ap (λ o. option_and_then (match_each [] []) (option_and_then (match_terms nil nil) (with_variable x (f (free x)) fin.empty o))) (fin.get-empty var_cmp x)

pub one_for_two : match_onto (free x ∷ free x ∷ []) (a ∷ b ∷ []) ≡ None
unfolding match_onto
one_for_two =
    ap (λ o. option_and_then (match_each (free x ∷ []) (b ∷ [])) (with_variable x a fin.empty o)) (fin.get-empty var_cmp x)
    ∙ ap (λ o. option_and_then (match_each [] []) (with_variable x b (fin.insert fin.empty x a) o)) (own_binding fin.empty x a)
