-- What matching finds are exactly the maps under which the patterns become the terms.
use Rattle.std.proofs.Common.{◌≡◌, ◌↔◌, ℕ, Bool, true, false, eqb, ◌||◌, if◌then◌else◌, List, [], ◌∷◌, map, Option, Some, None, is_some, unwrap_or, refl, sym, ap, subst, ◌∙◌}
use Rattle.std.specs.List.{list_any}
use Rattle.std.specs.Prelude.{option_and_then}
use Rattle.std.specs.Ordering.{eq_by_cmp}
use Rattle.std.specs.FinMap as fin
use Rattle.std.proofs.lemmas.Bool.{eqb-true, eq-eqb}
use Rattle.fol.specs.declared.symbols.Sym.{Sym}
use Rattle.fol.specs.declared.symbols.Var.{Var}
use Rattle.fol.specs.Syntax.{Term, free, bound, app, Terms, nil, cons}
use Rattle.fol.specs.Order.{var_cmp, sym_cmp, term_cmp}
use Rattle.fol.proofs.OrderTies.{sym_equality_same, term_equality_same}
use Rattle.free_variables.specs.Occurrence.{is_free_in_term, is_free_in_terms}
use Rattle.substitution.specs.Image.{image_term, image_terms}
use Rattle.substitution.specs.Maps.{Map}
use Rattle.substitution.proofs.ImageLaws.{same_var, own_binding, other_binding}
use Rattle.unify_laws.specs.Matching.{IsWithin, with_variable, match_term, match_terms, match_each, match_onto}
use Rattle.unify_laws.proofs.Images.{Replacing, split, clash_of}
use Rattle.unify_laws.proofs.Differences.{same_symbol}

-- The map n does what m does and makes the patterns become the terms, and no more: Equal says which maps make them so, and `occurs` which
-- variables stand in the patterns.
pub record IsMatched (Equal : Replacing → Type 0) (occurs : Var → Bool) (m n : Map) : Type 0 where
  pub matches : (h : Replacing) → IsWithin n h ↔ (IsWithin m h × Equal h)
  pub variables : (v : Var) → is_some (fin.get n v) ≡ (is_some (fin.get m v) || occurs v)

-- the answer is right
abbrev pub IsRight : (Replacing → Type 0) → (Var → Bool) → Map → Option Map → Type 0
IsRight Equal occurs m None = (h : Replacing) → IsWithin m h → Equal h → ⊥
IsRight Equal occurs m (Some n) = IsMatched Equal occurs m n

or-false : (b : Bool) → b ≡ (b || false)
or-false true = refl
or-false false = refl

or_assoc : (a b c : Bool) → ((a || b) || c) ≡ (a || (b || c))
or_assoc true b c = refl
or_assoc false b c = refl

or_true : (a b : Bool) → b ≡ true → true ≡ (a || b)
or_true true b e = refl
or_true false b e = sym e

some_apart : {A : Type 0} (a : A) → ◌≡◌ {A = Option A} None (Some a) → ⊥
some_apart a e = cc

-- one after the other

module _ (First Second Whole : Replacing → Type 0) (first second : Var → Bool)
    (one : (h : Replacing) → Whole h → First h) (two : (h : Replacing) → Whole h → Second h) (both : (h : Replacing) → First h → Second h → Whole h)
  where
    joined : (m n k : Map) → IsMatched First first m n → IsMatched Second second n k → IsMatched Whole (λ v. first v || second v) m k
    joined m n k f g = record {
      matches = λ h. (
        λ within. let before = (g.matches h).0 within in let start = (f.matches h).0 before.0 in (start.0, both h start.1 before.1),
        λ all. (g.matches h).1 ((f.matches h).1 (all.0, one h all.1), two h all.1),
      );
      variables = λ v. g.variables v ∙ ap (λ b. b || second v) (f.variables v) ∙ or_assoc (is_some (fin.get m v)) (first v) (second v);
    }

    right_second : (m n : Map) → IsMatched First first m n → (o : Option Map) → IsRight Second second n o → IsRight Whole (λ v. first v || second v) m o
    right_second m n f None g = λ h within all. g h ((f.matches h).1 (within, one h all)) (two h all)
    right_second m n f (Some k) g = joined m n k f g

    right_both : (m : Map) (o : Option Map) (next : Map → Option Map) → IsRight First first m o → ((n : Map) → IsRight Second second n (next n)) → IsRight Whole (λ v. first v || second v) m (option_and_then next o)
    right_both m None next f g = λ h within all. f h within (one h all)
    right_both m (Some n) next f g = right_second m n f (next n) (g n)

-- what binds no variable

nothing_more : (Equal : Replacing → Type 0) (m : Map) → ((h : Replacing) → Equal h) → IsMatched Equal (λ v. false) m m
nothing_more Equal m all = record { matches = λ h. (λ within. (within, all h), λ both. both.0); variables = λ v. or-false (is_some (fin.get m v)) }

-- a variable of a pattern

new_variable : (x : Var) (u : Term) (m : Map) → fin.get m x ≡ None → IsMatched (λ h. image_term h (free x) ≡ u) (λ v. eq_by_cmp var_cmp v x) m (fin.insert m x u)
new_variable x u m none = record {
  matches = λ h. (
    λ within. (
      λ v s is. within v s (split (eq_by_cmp var_cmp v x)
          (λ e. absurd (some_apart s (sym none ∙ ap (fin.get m) (sym (same_var v x e)) ∙ is)))
          (λ apart. other_binding m x v u apart ∙ is)),
      within x u (own_binding m x u),
    ),
    λ both. λ v s is. split (eq_by_cmp var_cmp v x)
        (λ e.
        let at_x : fin.get (fin.insert m x u) x ≡ Some s = ap (fin.get (fin.insert m x u)) (sym (same_var v x e)) ∙ is in
        let same : u ≡ s = ap (λ o. unwrap_or o u) (sym (own_binding m x u) ∙ at_x) in
        ap (λ w. image_term h (free w)) (same_var v x e) ∙ both.1 ∙ same)
        (λ apart. both.0 v s (sym (other_binding m x v u apart) ∙ is)),
  );
  variables = λ v. split (eq_by_cmp var_cmp v x)
      (λ e. ap (λ w. is_some (fin.get (fin.insert m x u) w)) (same_var v x e) ∙ ap is_some (own_binding m x u) ∙ or_true (is_some (fin.get m v)) (eq_by_cmp var_cmp v x) e)
      (λ apart. ap is_some (other_binding m x v u apart) ∙ or-false (is_some (fin.get m v)) ∙ ap (λ b. is_some (fin.get m v) || b) (sym apart));
}

old_variable : (x : Var) (s u : Term) (m : Map) → fin.get m x ≡ Some s → (b : Bool) → eq_by_cmp term_cmp s u ≡ b → IsRight (λ h. image_term h (free x) ≡ u) (λ v. eq_by_cmp var_cmp v x) m (if b then Some m else None)
old_variable x s u m is true e = record {
  matches = λ h. (λ within. (within, within x s is ∙ (term_equality_same s u (eq_by_cmp term_cmp s u) refl).0 e), λ both. both.0);
  variables = λ v. split (eq_by_cmp var_cmp v x)
      (λ d. ap (λ w. is_some (fin.get m w)) (same_var v x d) ∙ ap is_some is ∙ or_true (is_some (fin.get m v)) (eq_by_cmp var_cmp v x) d)
      (λ apart. or-false (is_some (fin.get m v)) ∙ ap (λ b. is_some (fin.get m v) || b) (sym apart));
}
old_variable x s u m is false e = λ h within same. clash_of (eq_by_cmp term_cmp s u) ((term_equality_same s u (eq_by_cmp term_cmp s u) refl).1 (sym (within x s is) ∙ same)) e

variable_right : (x : Var) (u : Term) (m : Map) (o : Option Term) → fin.get m x ≡ o → IsRight (λ h. image_term h (free x) ≡ u) (λ v. eq_by_cmp var_cmp v x) m (with_variable x u m o)
variable_right x u m None is = new_variable x u m is
variable_right x u m (Some s) is = old_variable x s u m is (eq_by_cmp term_cmp s u) refl

index_right : (i j : ℕ) (m : Map) (b : Bool) → eqb i j ≡ b → IsRight (λ h. bound i ≡ bound j) (λ v. false) m (if b then Some m else None)
index_right i j m true e = nothing_more _ m (λ h. ap bound (eqb-true i j e))
index_right i j m false e = λ h within d. let same : i ≡ j = cc in clash_of (eqb i j) (eq-eqb i j same) e

moved : (First Second : Replacing → Type 0) (occurs : Var → Bool) (m : Map) (o : Option Map) → ((h : Replacing) → First h → Second h) → ((h : Replacing) → Second h → First h) → IsRight First occurs m o → IsRight Second occurs m o
moved First Second occurs m None there back f = λ h within all. f h within (back h all)
moved First Second occurs m (Some n) there back f = record {
  matches = λ h. (λ within. let both = (f.matches h).0 within in (both.0, there h both.1), λ both. (f.matches h).1 (both.0, back h both.1));
  variables = f.variables;
}

arguments_right : (f g : Sym) (ts us : Terms) (m : Map) (o : Option Map) → IsRight (λ h. image_terms h ts ≡ us) (λ v. is_free_in_terms v ts) m o → (b : Bool) → eq_by_cmp sym_cmp f g ≡ b
    → IsRight (λ h. app f (image_terms h ts) ≡ app g us) (λ v. is_free_in_terms v ts) m (if b then o else None)
arguments_right f g ts us m o right true e = moved (λ h. image_terms h ts ≡ us) (λ h. app f (image_terms h ts) ≡ app g us) (λ v. is_free_in_terms v ts) m o (λ h d. λ i. app (same_symbol f g e i) (d i)) (λ h d. cc) right
arguments_right f g ts us m o right false e = λ h within d. let one : f ≡ g = cc in clash_of (eq_by_cmp sym_cmp f g) ((sym_equality_same f g (eq_by_cmp sym_cmp f g) refl).1 one) e

mutual
  pub match_term_right : (t u : Term) (m : Map) → IsRight (λ h. image_term h t ≡ u) (λ v. is_free_in_term v t) m (match_term t u m)
  match_term_right (free x) u m = variable_right x u m (fin.get m x) refl
  match_term_right (bound i) (bound j) m = index_right i j m (eqb i j) refl
  match_term_right (bound i) (free y) m = λ h within e. cc
  match_term_right (bound i) (app g us) m = λ h within e. cc
  match_term_right (app f ts) (app g us) m = arguments_right f g ts us m (match_terms ts us m) (match_terms_right ts us m) (eq_by_cmp sym_cmp f g) refl
  match_term_right (app f ts) (free y) m = λ h within e. cc
  match_term_right (app f ts) (bound j) m = λ h within e. cc

  match_terms_right : (ts us : Terms) (m : Map) → IsRight (λ h. image_terms h ts ≡ us) (λ v. is_free_in_terms v ts) m (match_terms ts us m)
  match_terms_right nil nil m = nothing_more _ m (λ h. refl)
  match_terms_right nil (cons u us) m = λ h within e. cc
  match_terms_right (cons t ts) nil m = λ h within e. cc
  match_terms_right (cons t ts) (cons u us) m =
      right_both (λ h. image_term h t ≡ u) (λ h. image_terms h ts ≡ us) (λ h. cons (image_term h t) (image_terms h ts) ≡ cons u us) (λ v. is_free_in_term v t) (λ v. is_free_in_terms v ts)
      (λ h e. cc) (λ h e. cc) (λ h first later. λ i. cons (first i) (later i)) m (match_term t u m) (match_terms ts us) (match_term_right t u m) (match_terms_right ts us)

match_each_right : (ts us : List Term) (m : Map) → IsRight (λ h. map (image_term h) ts ≡ us) (λ v. list_any (is_free_in_term v) ts) m (match_each ts us m)
match_each_right [] [] m = nothing_more _ m (λ h. refl)
match_each_right [] (u ∷ us) m = λ h within e. cc
match_each_right (t ∷ ts) [] m = λ h within e. cc
match_each_right (t ∷ ts) (u ∷ us) m =
    right_both (λ h. image_term h t ≡ u) (λ h. map (image_term h) ts ≡ us) (λ h. (image_term h t ∷ map (image_term h) ts) ≡ u ∷ us) (λ v. is_free_in_term v t) (λ v. list_any (is_free_in_term v) ts)
    (λ h e. cc) (λ h e. cc) (λ h first later. λ i. first i ∷ later i) m (match_term t u m) (match_each ts us) (match_term_right t u m) (match_each_right ts us)

pub right : (ts us : List Term) → IsRight (λ h. map (image_term h) ts ≡ us) (λ v. list_any (is_free_in_term v) ts) fin.empty (match_onto ts us)
unfolding match_onto
right ts us = match_each_right ts us fin.empty

-- the clauses of it

within_empty : (h : Replacing) → IsWithin fin.empty h
within_empty h v s is = absurd (some_apart s (sym (fin.get-empty var_cmp v) ∙ is))

-- a finite map does what it says
pub within_itself : (m : Map) → IsWithin m (fin.get m)
within_itself m v s is = ap (λ o. unwrap_or o (free v)) is

pub matched : (ts us : List Term) (m : Map) → match_onto ts us ≡ Some m → IsMatched (λ h. map (image_term h) ts ≡ us) (λ v. list_any (is_free_in_term v) ts) fin.empty m
matched ts us m is = subst (IsRight (λ h. map (image_term h) ts ≡ us) (λ v. list_any (is_free_in_term v) ts) fin.empty) is (right ts us)

pub matchers : (ts us : List Term) (m : Map) → match_onto ts us ≡ Some m → (h : Replacing) → (map (image_term h) ts ≡ us) ↔ IsWithin m h
matchers ts us m is h = let g = (matched ts us m is).matches h in (λ e. g.1 (within_empty h, e), λ within. (g.0 within).1)

pub matches : (ts us : List Term) (m : Map) → match_onto ts us ≡ Some m → map (image_term (fin.get m)) ts ≡ us
matches ts us m is = (matchers ts us m is (fin.get m)).1 (within_itself m)

pub variables_matched : (ts us : List Term) (m : Map) → match_onto ts us ≡ Some m → (v : Var) → is_some (fin.get m v) ≡ list_any (is_free_in_term v) ts
variables_matched ts us m is v = (matched ts us m is).variables v ∙ ap (λ b. b || list_any (is_free_in_term v) ts) (ap is_some (fin.get-empty var_cmp v))

pub none_matches : (ts us : List Term) → match_onto ts us ≡ None → (h : Replacing) → map (image_term h) ts ≡ us → ⊥
none_matches ts us is h = (subst (IsRight (λ h. map (image_term h) ts ≡ us) (λ v. list_any (is_free_in_term v) ts) fin.empty) is (right ts us)) h (within_empty h)

pub none_found : (ts us : List Term) → ((h : Replacing) → map (image_term h) ts ≡ us → ⊥) → match_onto ts us ≡ None
none_found ts us none = elim (match_onto ts us) as (λ o. match_onto ts us ≡ o → o ≡ None) [
  | None ↦ λ _. refl
  | Some m ↦ λ is. absurd (none (fin.get m) (matches ts us m is))
] refl
