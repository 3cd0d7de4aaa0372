-- The unfolding of an atom whose symbol stands for a formula is that formula with the arguments for its variables.
use Rattle.std.proofs.Common.{◌≡◌, ℕ, zero, suc, ◌+◌, ◌-◌, ◌<◌, ◌≤◌, Bool, true, false, ltb, ◌==◌, if◌then◌else◌, List, [], ◌∷◌, length, Option, Some, None, IfSome, option_map, unwrap_or, refl, sym, ap, ◌∙◌, arith}
use Rattle.std.specs.Option.{option_or}
use Rattle.std.specs.Ordering.{eq_by_cmp}
use Rattle.std.proofs.lemmas.Bool.Decides.{nat_tests}
use Rattle.fol.specs.declared.symbols.Var.{Var}
use Rattle.fol.specs.Syntax.{Term, free, bound, app, Terms, nil, cons, Pred, Formula, atom, top, bot, not, and, or, imp, all, ex}
use Rattle.fol.specs.Order.{var_cmp}
use Rattle.fol.specs.Formed.{count_terms, IsFormed}
use Rattle.substitution.specs.Closed.{is_closed_term_at, are_closed_terms_at, is_closed_at, IsClosedTerm, IsClosedMap}
use Rattle.substitution.specs.Closing.{closed_over, innermost, level_from, indexed, bound_each_term, bound_each_terms, bound_each, enclosed, AreBelow}
use Rattle.substitution.specs.Image.{image_term, image_terms, image}
use Rattle.substitution.specs.Unfolding.{argument, put_term_at, put_terms_at, put_at, matrix_under, unf}
use Rattle.substitution.proofs.Booleans.{and_left, and_right}
use Rattle.substitution.proofs.ClosedLaws.{closed_of}
use Rattle.substitution.proofs.ClosingLaws.{closed_all_is, levels_below}
use Rattle.substitution.proofs.ImageLaws.{agree}
use Rattle.def_laws.specs.Definitions.{definition, given}
use Rattle.def_laws.specs.Flat.{flat}
use Rattle.def_laws.proofs.Untouched.{left_out}
use Rattle.def_laws.proofs.FlatLaws.{flat-image}
use Rattle.def_laws.proofs.FlatShapes.{formed_count}
use Rattle.def_laws.proofs.FlatUnfoldings.{flat-unf}

-- the argument at a place, counted from 0

nth : Terms → ℕ → Term
nth nil l = bound 0
nth (cons t ts) zero = t
nth (cons t ts) (suc l) = nth ts l

taken : (b : Bool) (t u : Term) → b ≡ true → (if b then t else u) ≡ t
taken b t u h = rw h refl

first_place : (l : ℕ) → 1 ≤ l → ((l - (0 + 1)) + 1 == l) ≡ true
first_place l h = grind (arith, nat_tests)

later_place : (l m : ℕ) → m + 2 ≤ l → ((l - (suc m + 1)) + 1 == l) ≡ false
later_place l m h = grind (arith, nat_tests)

argument_place : (ts : Terms) (l m : ℕ) → count_terms ts ≤ l → m < count_terms ts → argument ts l (l - (m + 1)) ≡ nth ts m
unfolding nth
argument_place nil l m few below = absurd (omega arith)
argument_place (cons t ts) l zero few below = taken _ t _ (first_place l (omega arith))
argument_place (cons t ts) l (suc m) few below =
    left_out _ t _ (later_place l m (omega arith))
    ∙ (let index : l - (suc m + 1) ≡ (l - 1) - (m + 1) = omega arith in ap (argument ts (l - 1)) index)
    ∙ argument_place ts (l - 1) m (omega arith) (omega arith)

inner_index : (i k l : ℕ) → k + 1 ≤ l → ltb i k ≡ true → (i + 1 == l) ≡ false
inner_index i k l h below = grind (arith, nat_tests)

argument_inside : (ts : Terms) (i k l : ℕ) → l ≡ k + count_terms ts → ltb i k ≡ true → argument ts l i ≡ bound i
argument_inside nil i k l level h = refl
argument_inside (cons t ts) i k l level h = left_out _ t _ (inner_index i k l (omega arith) h) ∙ argument_inside ts i k (l - 1) (omega arith) h

-- variables bound all at once, and then given arguments

module _ (ts : Terms) (levels : Var → Option ℕ) (low : AreBelow levels (count_terms ts)) where
  terms_at_levels : Var → Option Term
  terms_at_levels w = option_map (nth ts) (levels w)

  given_level : (o : Option ℕ) (w : Var) (l : ℕ) → count_terms ts ≤ l → IfSome o (λ m. m < count_terms ts) → put_term_at ts l (indexed o l w) ≡ unwrap_or (option_map (nth ts) o) (free w)
  given_level None w l few h = refl
  given_level (Some m) w l few h = argument_place ts l m few h

  mutual
    unfolding terms_at_levels

    put-bound_term : (t : Term) (k l : ℕ) → l ≡ k + count_terms ts → is_closed_term_at k t ≡ true → put_term_at ts l (bound_each_term levels l t) ≡ image_term terms_at_levels t
    put-bound_term (free w) k l level h = given_level (levels w) w l (omega arith) (low w)
    put-bound_term (bound i) k l level h = argument_inside ts i k l level h
    put-bound_term (app s us) k l level h = ap (app s) (put-bound_terms us k l level h)

    put-bound_terms : (us : Terms) (k l : ℕ) → l ≡ k + count_terms ts → are_closed_terms_at k us ≡ true → put_terms_at ts l (bound_each_terms levels l us) ≡ image_terms terms_at_levels us
    put-bound_terms nil k l level h = refl
    put-bound_terms (cons u us) k l level h = λ i. cons (put-bound_term u k l level (and_left _ _ h) i) (put-bound_terms us k l level (and_right (is_closed_term_at k u) _ h) i)

  put-bound : (f : Formula) (k l : ℕ) → l ≡ k + count_terms ts → is_closed_at k f ≡ true → put_at ts l (bound_each levels l f) ≡ image terms_at_levels f
  put-bound (atom p us) k l level h = ap (atom p) (put-bound_terms us k l level h)
  put-bound top k l level h = refl
  put-bound bot k l level h = refl
  put-bound (not f) k l level h = ap not (put-bound f k l level h)
  put-bound (and f g) k l level h = λ i. and (put-bound f k l level (and_left _ _ h) i) (put-bound g k l level (and_right (is_closed_at k f) _ h) i)
  put-bound (or f g) k l level h = λ i. or (put-bound f k l level (and_left _ _ h) i) (put-bound g k l level (and_right (is_closed_at k f) _ h) i)
  put-bound (imp f g) k l level h = λ i. imp (put-bound f k l level (and_left _ _ h) i) (put-bound g k l level (and_right (is_closed_at k f) _ h) i)
  put-bound (all f) k l level h = ap all (put-bound f (k + 1) (l + 1) (omega arith) h)
  put-bound (ex f) k l level h = ap ex (put-bound f (k + 1) (l + 1) (omega arith) h)

-- the terms at the levels of variables are those at their places

innermost_above : (o : Option ℕ) (b : Bool) (l : ℕ) → IfSome o (λ m. l + 1 ≤ m) → IfSome (innermost o b l) (λ m. l ≤ m)
innermost_above (Some m) b l h = omega arith
innermost_above None true l h = omega arith
innermost_above None false l h = tt

level_above : (vs : List Var) (l : ℕ) (w : Var) → IfSome (level_from l vs w) (λ m. l ≤ m)
level_above [] l w = tt
level_above (v ∷ vs) l w = innermost_above (level_from (suc l) vs w) (eq_by_cmp var_cmp v w) l (raised (level_from (suc l) vs w) (level_above vs (suc l) w))
  where
    raised : (o : Option ℕ) → IfSome o (λ m. suc l ≤ m) → IfSome o (λ m. l + 1 ≤ m)
    raised None h = tt
    raised (Some m) h = omega arith

one_more_place : (o : Option ℕ) (b : Bool) (t : Term) (ts : Terms) (l : ℕ) → IfSome o (λ m. suc l ≤ m)
    → option_or (option_map (λ m. nth ts (m - suc l)) o) (if b then Some t else None) ≡ option_map (λ m. nth (cons t ts) (m - l)) (innermost o b l)
unfolding nth
one_more_place (Some m) b t ts l h = let same : suc (m - suc l) ≡ m - l = omega arith in ap (λ n. Some (nth (cons t ts) n)) same
one_more_place None true t ts l h = let same : zero ≡ l - l = omega arith in ap (λ n. Some (nth (cons t ts) n)) same
one_more_place None false t ts l h = refl

given_places : (vs : List Var) (ts : Terms) (l : ℕ) (w : Var) → count_terms ts ≡ length vs → given vs ts w ≡ option_map (λ m. nth ts (m - l)) (level_from l vs w)
given_places [] ts l w e = refl
given_places (v ∷ vs) nil l w e = absurd (omega arith)
given_places (v ∷ vs) (cons t ts) l w e =
    ap (λ o. option_or o (if eq_by_cmp var_cmp v w then Some t else None)) (given_places vs ts (suc l) w (omega arith))
    ∙ one_more_place (level_from (suc l) vs w) (eq_by_cmp var_cmp v w) t ts l (level_above vs (suc l) w)

from_first : (ts : Terms) (o : Option ℕ) → option_map (λ m. nth ts (m - 0)) o ≡ option_map (nth ts) o
from_first ts None = refl
from_first ts (Some m) = let same : m - 0 ≡ m = omega arith in ap (λ n. Some (nth ts n)) same

-- the closure without its quantifiers

matrix-enclosed : (ts : Terms) (n : ℕ) (f : Formula) → count_terms ts ≡ n → matrix_under ts (enclosed all n f) ≡ f
matrix-enclosed nil zero f e = refl
matrix-enclosed nil (suc n) f e = absurd (omega arith)
matrix-enclosed (cons t ts) zero f e = absurd (omega arith)
matrix-enclosed (cons t ts) (suc n) f e = matrix-enclosed ts n f (omega arith)

below_count : (vs : List Var) (ts : Terms) → count_terms ts ≡ length vs → AreBelow (level_from 0 vs) (count_terms ts)
below_count vs ts e = rw e (levels_below vs (level_from 0 vs) (λ w. refl))

put_definition : (vs : List Var) (f : Formula) (ts : Terms) → is_closed_at 0 f ≡ true → count_terms ts ≡ length vs → put_at ts (count_terms ts) (matrix_under ts (closed_over all vs f)) ≡ image (given vs ts) f
unfolding terms_at_levels
put_definition vs f ts closed e =
    let levels : Var → Option ℕ = level_from 0 vs in
    let closure : enclosed all (length vs) (bound_each levels (length vs) f) ≡ closed_over all vs f = closed_all_is vs (length vs) f _ _ refl refl refl in
    ap (λ g. put_at ts (count_terms ts) (matrix_under ts g)) (sym closure)
    ∙ ap (put_at ts (count_terms ts)) (matrix-enclosed ts (length vs) (bound_each levels (length vs) f) e)
    ∙ ap (λ n. put_at ts (count_terms ts) (bound_each levels n f)) (sym e)
    ∙ put-bound ts levels (below_count vs ts e) f 0 (count_terms ts) (omega arith) closed
    ∙ agree _ (given vs ts) f (λ w out. ap (λ o. unwrap_or o (free w)) (sym (given_places vs ts 0 w e ∙ from_first ts (levels w))))

pub unf_definition : (name : List ℕ) (vs : List Var) (f : Formula) (ts : Terms) → is_closed_at 0 f ≡ true → count_terms ts ≡ length vs → unf (atom (definition name vs f) ts) ≡ Some (image (given vs ts) f)
unf_definition name vs f ts closed e = ap (λ (g : Formula). Some g) (put_definition vs f ts closed e)

-- and so with all unfolded

closed_choice : (o : Option Term) (b : Bool) (t : Term) → IfSome o IsClosedTerm → IsClosedTerm t → IfSome (option_or o (if b then Some t else None)) IsClosedTerm
closed_choice (Some u) b t h e = h
closed_choice None true t h e = e
closed_choice None false t h e = tt

closed_given : (vs : List Var) (ts : Terms) → are_closed_terms_at 0 ts ≡ true → IsClosedMap (given vs ts)
closed_given [] ts h w = tt
closed_given (v ∷ vs) nil h w = tt
closed_given (v ∷ vs) (cons t ts) h w =
    closed_choice (given vs ts w) (eq_by_cmp var_cmp v w) t (closed_given vs ts (and_right (is_closed_term_at 0 t) _ h) w) (and_left _ _ h)

pub flat_definition : (name : List ℕ) (vs : List Var) (f : Formula) (ts : Terms) → IsFormed f → IsFormed (atom (definition name vs f) ts) → flat (atom (definition name vs f) ts) ≡ image (given vs ts) (flat f)
flat_definition name vs f ts body h =
    let p : Pred = definition name vs f in
    sym (flat-unf (atom p ts) h)
    ∙ ap flat (put_definition vs f ts (closed_of f 0 body) (formed_count p ts 0 h))
    ∙ flat-image (given vs ts) (closed_given vs ts (closed_of (atom p ts) 0 h)) f 0 body
