-- Rows of well-formed tuples, their patterns and their values.
use Rattle.std.proofs.Common.{◌≡◌, ℕ, suc, ◌+◌, ◌<◌, Bool, true, false, not, ◌&&◌, ◌==◌, if◌then◌else◌, List, [], ◌∷◌, map, Option, Some, None, IfSome, is_some, nat_lt, length, refl, sym, ap, subst, ◌∙◌, arith}
use Rattle.std.specs.List.{All, list_all, filter}
use Rattle.std.proofs.lemmas.List.Elements.{All-nil, All-cons, All-head, All-tail, All-append, All-map, All-weaker, All-filter}
use borrow.Author.Tests.{eq-eqb, eqb-true, ltb-true}
use Rattle.fol.specs.declared.symbols.Var.{Var}
use Rattle.fol.specs.Syntax.{Term, free, bound, app, Terms, nil, cons}
use Rattle.fol.specs.OrderLaws.{term_total, terms_total}
use Rattle.fol.proofs.OrderTies.{term_ties, terms_ties}
use Rattle.fol.specs.Formed.{is_formed_sym, is_formed_term_at, are_formed_terms_at, is_formed_term, is_formed_var, count_terms}
use Rattle.finite.specs.Finite as set
use Rattle.free_variables.specs.Occurrence.{is_free_in_term, is_free_in_terms}
use Rattle.substitution.specs.Closed.{are_closed_terms_at}
use Rattle.substitution.proofs.ClosedLaws.{closed_term_of}
use Rattle.substitution.proofs.InstanceFormed.{formed_atom}
use Rattle.lk_rules.proofs.Subsequents.{and_left, and_right, and_both}
use Rattle.proof_trees.proofs.Booleans.{or_first, or_second, either}
use Rattle.search_laws.proofs.Tests.{clash, fails, not_false}
use Rattle.herbrand_laws.specs.Herbrand.{Item}
use Rattle.herbrand_laws.specs.Patterns.{put_term, put, has_variable_term, has_variable, Pattern, pattern_of_tuples, Row, row_with, row_of, delta, TermSet, IsRow}
use Rattle.herbrand_laws.specs.Candidates.{sublists, rows_of, same_terms, occurring, patterns}
use Rattle.herbrand_laws.proofs.Lists.{all-filter_map, all-flat_map, all-set_of_keys}
use Rattle.herbrand_laws.proofs.Patterns.{Gives, IsTuplePattern, tuples_pattern}

row_by_values : (p : Terms) (vs : Option (List Term)) (uss : List Terms) → Gives (put p) vs uss → has_variable p ≡ is_some vs → IfSome (row_with p vs) (IsRow uss)
row_by_values p None uss h g = tt
row_by_values p (Some vs) uss h g = record { list = vs; values = refl; gives = h; variable = g }

row_by_pattern : (o : Option (Pattern Terms)) (uss : List Terms) → IfSome o (λ p. IsTuplePattern p uss) → IfSome (row_of o) (IsRow uss)
row_by_pattern None uss h = tt
row_by_pattern (Some p) uss h = row_by_values p.pattern p.values uss h.gives h.variable

pub closed_terms_of : (ts : Terms) → are_formed_terms_at 0 ts ≡ true → are_closed_terms_at 0 ts ≡ true
closed_terms_of nil h = refl
closed_terms_of (cons t ts) h = and_both _ _ (closed_term_of t 0 (and_left _ _ h)) (closed_terms_of ts (and_right (is_formed_term_at 0 t) _ h))

-- the row of a first well-formed tuple and others
pub delta_row : (us : Terms) (uss : List Terms) → are_formed_terms_at 0 us ≡ true → IfSome (delta (us ∷ uss)) (IsRow (us ∷ uss))
delta_row us uss h = row_by_pattern (pattern_of_tuples us uss) (us ∷ uss) (tuples_pattern us (closed_terms_of us h) uss)

-- terms in patterns

mutual
  -- a pattern with another term is as well formed
  formed_other_term : (t u p : Term) → is_formed_term_at 0 u ≡ true → is_formed_term_at 0 (put_term p t) ≡ true → is_formed_term_at 0 (put_term p u) ≡ true
  formed_other_term t u (free v) f h = h
  formed_other_term t u (bound i) f h = elim (i == 0) as (λ b. is_formed_term_at 0 (if b then t else bound i) ≡ true → is_formed_term_at 0 (if b then u else bound i) ≡ true) [
    | true ↦ λ _. f
    | false ↦ λ e. e
  ] h
  formed_other_term t u (app s ts) f h = formed_atom (is_formed_sym s) _ _ s.arity _ _ (count-put u ts ∙ sym (count-put t ts)) (formed_other t u ts f) h

  pub formed_other : (t u : Term) (p : Terms) → is_formed_term_at 0 u ≡ true → are_formed_terms_at 0 (put p t) ≡ true → are_formed_terms_at 0 (put p u) ≡ true
  formed_other t u nil f h = refl
  formed_other t u (cons p ps) f h = and_both _ _ (formed_other_term t u p f (and_left _ _ h)) (formed_other t u ps f (and_right (is_formed_term_at 0 (put_term p t)) _ h))

  -- a pattern has as many terms with any term for its variable
  pub count-put : (t : Term) (p : Terms) → count_terms (put p t) ≡ count_terms p
  count-put t nil = refl
  count-put t (cons p ps) = ap (λ n. n + 1) (count-put t ps)

mutual
  -- the term for the variable is well formed where the whole is
  formed_value_term : (t p : Term) → has_variable_term p ≡ true → is_formed_term_at 0 (put_term p t) ≡ true → is_formed_term_at 0 t ≡ true
  formed_value_term t (free v) e h = cc
  formed_value_term t (bound i) e h = subst (λ b. is_formed_term_at 0 (if b then t else bound i) ≡ true) e h
  formed_value_term t (app s ts) e h = formed_value t ts e (and_right _ (are_formed_terms_at 0 (put ts t)) h)

  formed_value : (t : Term) (p : Terms) → has_variable p ≡ true → are_formed_terms_at 0 (put p t) ≡ true → is_formed_term_at 0 t ≡ true
  formed_value t nil e h = cc
  formed_value t (cons p ps) e h =
      either (has_variable_term p) (has_variable ps)
      (λ here. formed_value_term t p here (and_left _ _ h))
      (λ later. formed_value t ps later (and_right (is_formed_term_at 0 (put_term p t)) _ h))
      e

mutual
  -- a variable of the pattern stands in it with a term for its own variable too
  free_put_term : (y : Var) (t p : Term) → is_free_in_term y p ≡ true → is_free_in_term y (put_term p t) ≡ true
  free_put_term y t (free v) e = e
  free_put_term y t (bound i) e = cc
  free_put_term y t (app s ts) e = free_put y t ts e

  free_put : (y : Var) (t : Term) (p : Terms) → is_free_in_terms y p ≡ true → is_free_in_terms y (put p t) ≡ true
  free_put y t nil e = cc
  free_put y t (cons p ps) e =
      either (is_free_in_term y p) (is_free_in_terms y ps)
      (λ here. or_first _ (is_free_in_terms y (put ps t)) (free_put_term y t p here))
      (λ later. or_second (is_free_in_term y (put_term p t)) _ (free_put y t ps later))
      e

-- the values that give well-formed tuples are well formed
values_formed : (p : Terms) (vs : List Term) (uss : List Terms) → has_variable p ≡ true → map (put p) vs ≡ uss → All (λ us. are_formed_terms_at 0 us ≡ true) uss → All (λ t. is_formed_term t ≡ true) vs
values_formed p [] uss e same h = All-nil _
values_formed p (v ∷ vs) [] e same h = cc
values_formed p (v ∷ vs) (us ∷ uss) e same h =
    let first : put p v ≡ us = cc in
    let later : map (put p) vs ≡ uss = cc in
    All-cons (λ t. is_formed_term t ≡ true) v vs
    (formed_value v p e (subst (λ x. are_formed_terms_at 0 x ≡ true) (sym first) (All-head (λ x. are_formed_terms_at 0 x ≡ true) us uss h)))
    (values_formed p vs uss e later (All-tail (λ x. are_formed_terms_at 0 x ≡ true) us uss h))

pub set_formed : (uss : List Terms) → All (λ us. are_formed_terms_at 0 us ≡ true) uss → (r : Row) → IsRow uss r → list_all is_formed_term (set.listing r.values) ≡ true
set_formed uss h r g =
    ap (λ v. list_all is_formed_term (set.listing v)) g.values
    ∙ all-set_of_keys term_total is_formed_term (λ q x e. ap is_formed_term (sym (term_ties q x e))) g.list (values_formed r.pattern g.list uss g.variable g.gives h)

-- a variable that is in no tuple, and tuples of n terms

module _ (y : Var) (n : ℕ) where
  -- a tuple of n well-formed terms without the variable
  pub record Fits (us : Terms) : Type 0 where
    pub formed : are_formed_terms_at 0 us ≡ true
    pub counted : count_terms us ≡ n
    pub without : is_free_in_terms y us ≡ false

  -- whether a pattern is one of those
  abbrev pub fits_pattern : Terms → Bool
  fits_pattern p = (are_formed_terms_at 0 (put p (free y)) && count_terms p == n) && not (is_free_in_terms y p)

  pub record RowFits (r : Row) : Type 0 where
    pub pattern : fits_pattern r.pattern ≡ true
    pub values : list_all is_formed_term (set.listing r.values) ≡ true

  module _ (formed_y : is_formed_var y ≡ true) where
    pattern_fits : (p : Terms) (v : Term) → Fits (put p v) → fits_pattern p ≡ true
    pattern_fits p v h =
        and_both _ _
        (and_both _ _ (formed_other v (free y) p formed_y h.formed) (eq-eqb (count_terms p) n (sym (count-put v p) ∙ h.counted)))
        (not_false _ (fails _ (λ e. clash (is_free_in_terms y (put p v)) (free_put y v p e) h.without)))

    some_value : (p : Terms) (vs : List Term) (us : Terms) (uss : List Terms) → map (put p) vs ≡ us ∷ uss → Fits us → fits_pattern p ≡ true
    some_value p [] us uss same h = cc
    some_value p (v ∷ vs) us uss same h = let first : put p v ≡ us = cc in pattern_fits p v (subst Fits (sym first) h)

    row_fits : (us : Terms) (uss : List Terms) → All Fits (us ∷ uss) → (o : Option Row) → IfSome o (IsRow (us ∷ uss)) → IfSome o RowFits
    row_fits us uss h None g = tt
    row_fits us uss h (Some r) g = record {
      pattern = some_value r.pattern g.list us uss g.gives (All-head Fits us uss h);
      values = set_formed (us ∷ uss) (All-weaker Fits (λ x. are_formed_terms_at 0 x ≡ true) (λ x f. f.formed) (us ∷ uss) h) r g;
    }

    -- the row of tuples that are such
    delta_fits : (uss : List Terms) → All Fits uss → IfSome (delta uss) RowFits
    delta_fits [] h = tt
    delta_fits (us ∷ uss) h = row_fits us uss h (delta (us ∷ uss)) (delta_row us uss (All-head Fits us uss h).formed)

-- each sublist has elements of the list
pub all_sublists : {A : Type 0} (P : A → Type 0) (xs : List A) → All P xs → All (All P) (sublists xs)
all_sublists P [] h = All-cons (All P) [] [] (All-nil P) (All-nil (All P))
all_sublists P (x ∷ xs) h =
    let later = all_sublists P xs (All-tail P x xs h) in
    All-append (All P) (map (λ ys. x ∷ ys) (sublists xs)) (sublists xs)
    (All-map (All P) (λ ys. x ∷ ys) (sublists xs) (All-weaker (All P) (λ ys. All P (x ∷ ys)) (λ ys. All-cons P x ys (All-head P x xs h)) (sublists xs) later))
    later

module _ (y : Var) (formed_y : is_formed_var y ≡ true) (width : ℕ) where
  -- the rows of an item
  rows_fit : (n : ℕ) (i : Item) → All (Fits y n) i.tuples → All (RowFits y n) (rows_of width i)
  rows_fit n i h =
      let few = filter (λ uss. nat_lt 1 (length uss) && nat_lt (length uss) (suc width)) (sublists i.tuples) in
      all-filter_map (RowFits y n) delta few
      (All-weaker (All (Fits y n)) (λ uss. IfSome (delta uss) (RowFits y n)) (delta_fits y n formed_y) few
      (All-filter _ (All (Fits y n)) (sublists i.tuples) (all_sublists (Fits y n) i.tuples h)))

  -- its patterns
  pub patterns_fit : (n : ℕ) (w : TermSet) (i : Item) → All (Fits y n) i.tuples → list_all (fits_pattern y n) (patterns width w i) ≡ true
  patterns_fit n w i h =
      let those = filter (λ r. same_terms r.values w) (rows_of width i) in
      all-set_of_keys terms_total (fits_pattern y n) (λ q x e. ap (fits_pattern y n) (sym (terms_ties q x e))) (map (λ r. r.pattern) those)
      (All-map (λ p. fits_pattern y n p ≡ true) (λ r. r.pattern) those
      (All-weaker (RowFits y n) (λ r. fits_pattern y n r.pattern ≡ true) (λ r f. f.pattern) those (All-filter _ (RowFits y n) (rows_of width i) (rows_fit n i h))))

  -- and its sets of values
  sets_formed : (n : ℕ) (i : Item) → All (Fits y n) i.tuples → All (λ v. list_all is_formed_term (set.listing v) ≡ true) (map (λ r. r.values) (rows_of width i))
  sets_formed n i h =
      All-map (λ v. list_all is_formed_term (set.listing v) ≡ true) (λ r. r.values) (rows_of width i)
      (All-weaker (RowFits y n) (λ r. list_all is_formed_term (set.listing r.values) ≡ true) (λ r f. f.values) (rows_of width i) (rows_fit n i h))

  -- the candidates are sets of well-formed terms
  pub candidates_formed : (n : Item → ℕ) (items : List Item) → All (λ i. All (Fits y (n i)) i.tuples) items → All (λ v. list_all is_formed_term (set.listing v) ≡ true) (occurring width items)
  candidates_formed n items h =
      all-flat_map (λ v. list_all is_formed_term (set.listing v) ≡ true) (λ i. map (λ r. r.values) (rows_of width i)) items
      (All-weaker (λ i. All (Fits y (n i)) i.tuples) (λ i. All (λ v. list_all is_formed_term (set.listing v) ≡ true) (map (λ r. r.values) (rows_of width i))) (λ i. sets_formed (n i) i) items h)

-- patterns inside a quantifier, which their variable belongs to

mutual
  -- a pattern is well formed there where it is well formed with a term
  formed_under_term : (t p : Term) → is_formed_term_at 0 (put_term p t) ≡ true → is_formed_term_at 1 p ≡ true
  formed_under_term t (free v) h = h
  formed_under_term t (bound i) h =
      elim (i == 0) as (λ b. (i == 0) ≡ b → is_formed_term_at 0 (if b then t else bound i) ≡ true → is_formed_term_at 1 (bound i) ≡ true) [
        | true ↦ λ e _. subst (λ j. is_formed_term_at 1 (bound j) ≡ true) (sym (eqb-true i 0 e)) refl
        | false ↦ λ _ k. let low : i < 0 = ltb-true i 0 (and_left _ _ k) in absurd (omega arith)
      ] refl h
  formed_under_term t (app s ts) h = formed_atom (is_formed_sym s) _ _ s.arity _ _ (sym (count-put t ts)) (formed_under t ts) h

  pub formed_under : (t : Term) (p : Terms) → are_formed_terms_at 0 (put p t) ≡ true → are_formed_terms_at 1 p ≡ true
  formed_under t nil h = refl
  formed_under t (cons p ps) h = and_both _ _ (formed_under_term t p (and_left _ _ h)) (formed_under t ps (and_right (is_formed_term_at 0 (put_term p t)) _ h))
