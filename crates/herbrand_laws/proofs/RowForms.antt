-- The rows of well-formed tuples are well formed, and patterns with well-formed terms are.
use Rattle.std.proofs.Common.{◌≡◌, ◌<◌, true, List, [], ◌∷◌, map, Some, None, is_some, IfSome, refl, sym, ap, subst, ◌∙◌, arith}
use Rattle.std.specs.List.{All}
use Rattle.std.proofs.lemmas.List.Elements.{All-head, All-from_recursion}
use Rattle.std.proofs.lemmas.List.Sums.{AllPass-from_list_all}
use borrow.Author.Tests.{ltb-true}
use Rattle.fol.specs.Syntax.{Term, free, bound, app, Terms, nil, cons}
use Rattle.fol.specs.Formed.{is_formed_sym, is_formed_term_at, are_formed_terms_at, is_formed_term, count_terms, IsFormedTerm}
use Rattle.finite.specs.Finite as set
use Rattle.substitution.proofs.ClosedLaws.{closed_term_of}
use Rattle.substitution.proofs.InstanceFormed.{formed_atom}
use Rattle.lk_rules.proofs.Subsequents.{and_left, and_right, and_both}
use Rattle.herbrand_laws.specs.Patterns.{put_term, put, Row, delta, IsRow, has_variable_term, pattern_of_terms}
use Rattle.herbrand_laws.proofs.Patterns.{Gives, IsTermPattern, terms_pattern}
use Rattle.herbrand_laws.proofs.Rows.{delta_row, set_formed, count-put, formed_under}

mutual
  put_formed_term : (t p : Term) → is_formed_term_at 0 t ≡ true → is_formed_term_at 1 p ≡ true → is_formed_term_at 0 (put_term p t) ≡ true
  put_formed_term t (free v) f h = h
  put_formed_term t (bound i) f h =
      let low : i < 1 = ltb-true i 1 (and_left _ _ h) in
      let first : 0 ≡ i = omega arith in
      subst (λ j. is_formed_term_at 0 (put_term (bound j) t) ≡ true) first f
  put_formed_term t (app s ts) f h = formed_atom (is_formed_sym s) _ _ s.arity _ _ (count-put t ts) (put_formed t ts f) h

  -- a pattern that is well formed inside a quantifier is well formed with a well-formed term
  pub put_formed : (t : Term) (p : Terms) → is_formed_term_at 0 t ≡ true → are_formed_terms_at 1 p ≡ true → are_formed_terms_at 0 (put p t) ≡ true
  put_formed t nil f h = refl
  put_formed t (cons p ps) f h = and_both _ _ (put_formed_term t p f (and_left _ _ h)) (put_formed t ps f (and_right (is_formed_term_at 1 p) _ h))

-- the pattern is one of the tuples with a term for some of its parts
pattern_formed : (p : Terms) (vs : List Term) (us : Terms) (uss : List Terms) → map (put p) vs ≡ us ∷ uss → are_formed_terms_at 0 us ≡ true → are_formed_terms_at 1 p ≡ true
pattern_formed p [] us uss e f = cc
pattern_formed p (v ∷ vs) us uss e f = let first : put p v ≡ us = cc in formed_under v p (ap (are_formed_terms_at 0) first ∙ f)

pattern_counted : (p : Terms) (vs : List Term) (us : Terms) (uss : List Terms) → map (put p) vs ≡ us ∷ uss → count_terms p ≡ count_terms us
pattern_counted p [] us uss e = cc
pattern_counted p (v ∷ vs) us uss e = let first : put p v ≡ us = cc in sym (count-put v p) ∙ ap count_terms first

module _ (us : Terms) (uss : List Terms) (r : Row) where
  pub row_gives : are_formed_terms_at 0 us ≡ true → delta (us ∷ uss) ≡ Some r → IsRow (us ∷ uss) r
  row_gives f e = subst (λ o. IfSome o (IsRow (us ∷ uss))) e (delta_row us uss f)

  -- the pattern has as many terms as the tuples
  pub row_counted : are_formed_terms_at 0 us ≡ true → delta (us ∷ uss) ≡ Some r → count_terms r.pattern ≡ count_terms us
  row_counted f e = let row = row_gives f e in pattern_counted r.pattern row.list us uss row.gives

  -- it is well formed inside a quantifier, and the values are well formed
  pub row_formed : All (λ vs. are_formed_terms_at 0 vs ≡ true) (us ∷ uss) → delta (us ∷ uss) ≡ Some r → (are_formed_terms_at 1 r.pattern ≡ true) × All IsFormedTerm (set.listing r.values)
  row_formed h e =
      let f = All-head (λ vs. are_formed_terms_at 0 vs ≡ true) us uss h in
      let row = row_gives f e in
      (pattern_formed r.pattern row.list us uss row.gives f, AllPass-from_list_all is_formed_term (set.listing r.values) (set_formed (us ∷ uss) h r row))

-- patterns of terms

module _ (t : Term) (ts : List Term) (f : IsFormedTerm t) where
  term_pattern : IsTermPattern (pattern_of_terms t ts) (t ∷ ts)
  term_pattern = terms_pattern t (closed_term_of t 0 f) ts

  -- without values it is each term, whatever stands for its variable
  pub no_values : (pattern_of_terms t ts).values ≡ None → (v : Term) → All (λ u. put_term (pattern_of_terms t ts).pattern v ≡ u) (t ∷ ts)
  no_values e v =
      let p = (pattern_of_terms t ts).pattern in
      All-from_recursion (λ u. put_term p v ≡ u) (t ∷ ts) (subst (λ o. Gives (put_term p) o (t ∷ ts)) e term_pattern.gives v)

  -- with values it is each term by its value
  pub by_values : (vs : List Term) → (pattern_of_terms t ts).values ≡ Some vs → map (put_term (pattern_of_terms t ts).pattern) vs ≡ t ∷ ts
  by_values vs e = subst (λ o. Gives (put_term (pattern_of_terms t ts).pattern) o (t ∷ ts)) e term_pattern.gives

  -- it has the variable just where it has values
  pub with_variable : has_variable_term (pattern_of_terms t ts).pattern ≡ is_some (pattern_of_terms t ts).values
  with_variable = term_pattern.variable
