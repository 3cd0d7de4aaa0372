-- What patterns give back: each of the terms, or of the tuples, by its value.
use Rattle.std.proofs.Common.{◌≡◌, ◌<◌, Bool, true, false, if◌then◌else◌, List, [], ◌∷◌, map, Option, Some, None, option_map, option_and_then, is_some, IfSome, refl, ap, subst, ◌∙◌, arith}
use Rattle.std.specs.List.{AllByRecursion, list_all}
use Rattle.std.specs.Ordering.{eq_by_cmp}
use Rattle.std.specs.Cmp.Lexicographic.{pointwise}
use borrow.Author.Tests.{ltb-true}
use Rattle.fol.specs.declared.symbols.Sym.{Sym}
use Rattle.fol.specs.Syntax.{Term, free, bound, app, Terms, nil, cons}
use Rattle.fol.specs.Order.{sym_cmp, term_cmp}
use Rattle.fol.proofs.OrderTies.{sym_equality_same, term_equality_same}
use Rattle.substitution.specs.Closed.{is_closed_term_at, are_closed_terms_at}
use Rattle.substitution.proofs.ClosedLaws.{inst-closed_term}
use Rattle.lk_rules.proofs.Subsequents.{and_left, and_right}
use Rattle.proof_trees.proofs.Booleans.{or_first, or_second}
use Rattle.search_laws.proofs.Tests.{neither}
use Rattle.herbrand_laws.specs.Patterns.{put_term, put, has_variable_term, has_variable, Pattern, constant, variable_for, arguments_under, arguments, separated, are_empty, common, joined_patterns, applied, pattern_of_terms, pattern_of_tuples}

-- without values a pattern is each element, whatever stands for the variable; with values it is each element by its value
abbrev pub Gives : {A : Type 0} → (Term → A) → Option (List Term) → List A → Type 0
Gives f None xs = (v : Term) → AllByRecursion (λ x. f v ≡ x) xs
Gives f (Some vs) xs = map f vs ≡ xs

-- the pattern gives the elements back, and has its variable just where it has values
pub record IsPattern {A : Type 0} (at : A → Term → A) (has : A → Bool) (p : Pattern A) (xs : List A) : Type 0 where
  pub gives : Gives (at p.pattern) p.values xs
  pub variable : has p.pattern ≡ is_some p.values

abbrev pub IsTermPattern : Pattern Term → List Term → Type 0
IsTermPattern = IsPattern put_term has_variable_term

abbrev pub IsTuplePattern : Pattern Terms → List Terms → Type 0
IsTuplePattern = IsPattern put has_variable

-- terms without an index have no variable of a pattern
mutual
  no_variable_term : (t : Term) → is_closed_term_at 0 t ≡ true → has_variable_term t ≡ false
  no_variable_term (free v) c = refl
  no_variable_term (bound i) c = let low : i < 0 = ltb-true i 0 c in absurd (omega arith)
  no_variable_term (app s ts) c = no_variable ts c

  no_variable : (ts : Terms) → are_closed_terms_at 0 ts ≡ true → has_variable ts ≡ false
  no_variable nil c = refl
  no_variable (cons t ts) c = neither _ _ (no_variable_term t (and_left _ _ c)) (no_variable ts (and_right (is_closed_term_at 0 t) _ c))

-- equal terms

each_equal : (t u : Term) (ts : List Term) → u ≡ t → list_all (eq_by_cmp term_cmp t) ts ≡ true → AllByRecursion (λ x. u ≡ x) ts
each_equal t u [] e h = tt
each_equal t u (x ∷ xs) e h = (e ∙ (term_equality_same t x _ refl).0 (and_left _ _ h), each_equal t u xs e (and_right (eq_by_cmp term_cmp t x) _ h))

pub same_lists : (us vs : List Term) → pointwise (eq_by_cmp term_cmp) us vs ≡ true → us ≡ vs
same_lists [] [] e = refl
same_lists [] (v ∷ vs) e = cc
same_lists (u ∷ us) [] e = cc
same_lists (u ∷ us) (v ∷ vs) e = λ i. (term_equality_same u v _ refl).0 (and_left _ _ e) i ∷ same_lists us vs (and_right (eq_by_cmp term_cmp u v) _ e) i

constant_pattern : (t : Term) (ts : List Term) → is_closed_term_at 0 t ≡ true → list_all (eq_by_cmp term_cmp t) ts ≡ true → IsTermPattern (constant t) (t ∷ ts)
constant_pattern t ts c h = record {
  gives = λ v. let e = inst-closed_term v t 0 0 (omega arith) c in (e, each_equal t (put_term t v) ts e h);
  variable = no_variable_term t c;
}

-- the variable alone
each_itself : (ts : List Term) → map (put_term (bound 0)) ts ≡ ts
each_itself [] = refl
each_itself (t ∷ ts) = ap (λ us. t ∷ us) (each_itself ts)

variable_pattern : (t : Term) (ts : List Term) → IsTermPattern (variable_for t ts) (t ∷ ts)
variable_pattern t ts = record { gives = each_itself (t ∷ ts); variable = refl }

by_test : (t : Term) (ts : List Term) (other : Pattern Term) → is_closed_term_at 0 t ≡ true → IsTermPattern other (t ∷ ts)
    → IsTermPattern (if list_all (eq_by_cmp term_cmp t) ts then constant t else other) (t ∷ ts)
by_test t ts other c h =
    elim (list_all (eq_by_cmp term_cmp t) ts) as (λ b. list_all (eq_by_cmp term_cmp t) ts ≡ b → IsTermPattern (if b then constant t else other) (t ∷ ts)) [
      | true ↦ λ e. constant_pattern t ts c e
      | false ↦ λ e. h
    ] refl

-- applications of one symbol

under : (s r : Sym) (us : Terms) (ts : List Term) (rest : Option (List Terms)) → IfSome rest (λ uss. map (app s) uss ≡ ts) → IfSome (arguments_under s r us rest) (λ uss. map (app s) uss ≡ app r us ∷ ts)
under s r us ts None h = elim (eq_by_cmp sym_cmp s r) as (λ b. IfSome (if b then option_map (λ uss. us ∷ uss) None else None) (λ uss. map (app s) uss ≡ app r us ∷ ts)) [
  | true ↦ tt
  | false ↦ tt
]
under s r us ts (Some uss) h = elim (eq_by_cmp sym_cmp s r) as (λ b. eq_by_cmp sym_cmp s r ≡ b → IfSome (if b then option_map (λ uss. us ∷ uss) (Some uss) else None) (λ uss. map (app s) uss ≡ app r us ∷ ts)) [
  | true ↦ λ e. λ i. app ((sym_equality_same s r _ refl).0 e i) us ∷ h i
  | false ↦ λ e. tt
] refl

arguments_are : (s : Sym) (ts : List Term) → IfSome (arguments s ts) (λ uss. map (app s) uss ≡ ts)
arguments_are s [] = refl
arguments_are s (free v ∷ ts) = tt
arguments_are s (bound i ∷ ts) = tt
arguments_are s (app r us ∷ ts) = under s r us ts (arguments s ts) (arguments_are s ts)

each_applied : (s : Sym) (p : Terms) (xs : List Terms) → AllByRecursion (λ x. p ≡ x) xs → AllByRecursion (λ x. app s p ≡ x) (map (app s) xs)
each_applied s p [] h = tt
each_applied s p (x ∷ xs) h = (ap (app s) h.0, each_applied s p xs h.1)

all_applied : (s : Sym) (p : Terms) (vs : List Term) → map (put_term (app s p)) vs ≡ map (app s) (map (put p) vs)
all_applied s p [] = refl
all_applied s p (v ∷ vs) = ap (λ ts. app s (put p v) ∷ ts) (all_applied s p vs)

applied_gives : (s : Sym) (p : Terms) (vs : Option (List Term)) (xs : List Terms) → Gives (put p) vs xs → Gives (put_term (app s p)) vs (map (app s) xs)
applied_gives s p None xs h = λ v. each_applied s (put p v) xs (h v)
applied_gives s p (Some vs) xs h = all_applied s p vs ∙ ap (map (app s)) h

applied_some : (s : Sym) (us : Terms) (ts : List Term) (uss : List Terms) (o : Option (Pattern Terms)) → map (app s) uss ≡ ts → IfSome o (λ p. IsTuplePattern p (us ∷ uss)) → IsTermPattern (applied s o (app s us) ts) (app s us ∷ ts)
applied_some s us ts uss None same h = variable_pattern (app s us) ts
applied_some s us ts uss (Some p) same h = record {
  gives = subst (λ xs. Gives (put_term (app s p.pattern)) p.values (app s us ∷ xs)) same (applied_gives s p.pattern p.values (us ∷ uss) h.gives);
  variable = h.variable;
}

applied_pattern : (s : Sym) (us : Terms) (ts : List Term) (o : Option (List Terms)) → IfSome o (λ uss. map (app s) uss ≡ ts) → ((uss : List Terms) → IfSome (pattern_of_tuples us uss) (λ p. IsTuplePattern p (us ∷ uss)))
    → IsTermPattern (applied s (option_and_then (pattern_of_tuples us) o) (app s us) ts) (app s us ∷ ts)
applied_pattern s us ts None same h = variable_pattern (app s us) ts
applied_pattern s us ts (Some uss) same h = applied_some s us ts uss (pattern_of_tuples us uss) same (h uss)

-- tuples

abbrev pub firsts : List (Term × Terms) → List Term
firsts ps = map (λ p. p.0) ps

abbrev pub others : List (Term × Terms) → List Terms
others ps = map (λ p. p.1) ps

abbrev pub put_together : List (Term × Terms) → List Terms
put_together ps = map (λ p. cons p.0 p.1) ps

separated_more : (t : Term) (us : Terms) (uss : List Terms) (o : Option (List (Term × Terms))) → IfSome o (λ ps. put_together ps ≡ uss) → IfSome (option_map (λ rest. (t, us) ∷ rest) o) (λ ps. put_together ps ≡ cons t us ∷ uss)
separated_more t us uss None h = tt
separated_more t us uss (Some ps) h = ap (λ xs. cons t us ∷ xs) h

separated_are : (uss : List Terms) → IfSome (separated uss) (λ ps. put_together ps ≡ uss)
separated_are [] = refl
separated_are (nil ∷ uss) = tt
separated_are (cons t us ∷ uss) = separated_more t us uss (separated uss) (separated_are uss)

each_empty : (uss : List Terms) → are_empty uss ≡ true → AllByRecursion (λ x. nil ≡ x) uss
each_empty [] e = tt
each_empty (nil ∷ uss) e = (refl, each_empty uss e)
each_empty (cons t us ∷ uss) e = cc

-- patterns put together

none_none : (a : Term) (b : Terms) (ps : List (Term × Terms)) → AllByRecursion (λ x. a ≡ x) (firsts ps) → AllByRecursion (λ x. b ≡ x) (others ps) → AllByRecursion (λ x. cons a b ≡ x) (put_together ps)
none_none a b [] h g = tt
none_none a b (p ∷ ps) h g = ((λ i. cons (h.0 i) (g.0 i)), none_none a b ps h.1 g.1)

none_some : (a : Term → Term) (b : Term → Terms) (ps : List (Term × Terms)) (vs : List Term) → ((v : Term) → AllByRecursion (λ x. a v ≡ x) (firsts ps)) → map b vs ≡ others ps → map (λ v. cons (a v) (b v)) vs ≡ put_together ps
none_some a b [] [] h g = refl
none_some a b [] (v ∷ vs) h g = cc
none_some a b (p ∷ ps) [] h g = cc
none_some a b (p ∷ ps) (v ∷ vs) h g =
    let first : b v ≡ p.1 = cc in
    let later : map b vs ≡ others ps = cc in
    λ i. cons ((h v).0 i) (first i) ∷ none_some a b ps vs (λ w. (h w).1) later i

some_none : (a : Term → Term) (b : Term → Terms) (ps : List (Term × Terms)) (vs : List Term) → map a vs ≡ firsts ps → ((v : Term) → AllByRecursion (λ x. b v ≡ x) (others ps)) → map (λ v. cons (a v) (b v)) vs ≡ put_together ps
some_none a b [] [] h g = refl
some_none a b [] (v ∷ vs) h g = cc
some_none a b (p ∷ ps) [] h g = cc
some_none a b (p ∷ ps) (v ∷ vs) h g =
    let first : a v ≡ p.0 = cc in
    let later : map a vs ≡ firsts ps = cc in
    λ i. cons (first i) ((g v).0 i) ∷ some_none a b ps vs later (λ w. (g w).1) i

some_some : (a : Term → Term) (b : Term → Terms) (ps : List (Term × Terms)) (vs : List Term) → map a vs ≡ firsts ps → map b vs ≡ others ps → map (λ v. cons (a v) (b v)) vs ≡ put_together ps
some_some a b [] [] h g = refl
some_some a b [] (v ∷ vs) h g = cc
some_some a b (p ∷ ps) [] h g = cc
some_some a b (p ∷ ps) (v ∷ vs) h g =
    let first : a v ≡ p.0 = cc in
    let second : b v ≡ p.1 = cc in
    let later : map a vs ≡ firsts ps = cc in
    let others_later : map b vs ≡ others ps = cc in
    λ i. cons (first i) (second i) ∷ some_some a b ps vs later others_later i

joined_values : (a : Term) (b : Terms) (us vs : Option (List Term)) (ps : List (Term × Terms)) → Gives (put_term a) us (firsts ps) → has_variable_term a ≡ is_some us → Gives (put b) vs (others ps) → has_variable b ≡ is_some vs
    → IfSome (option_map (λ ws. record { pattern = cons a b; values = ws }) (common us vs)) (λ p. IsTuplePattern p (put_together ps))
joined_values a b None None ps g h k l = record { gives = λ v. none_none (put_term a v) (put b v) ps (g v) (k v); variable = neither _ _ h l }
joined_values a b None (Some vs) ps g h k l = record { gives = none_some (put_term a) (put b) ps vs g k; variable = or_second (has_variable_term a) (has_variable b) l }
joined_values a b (Some us) None ps g h k l = record { gives = some_none (put_term a) (put b) ps us g k; variable = or_first (has_variable_term a) (has_variable b) h }
joined_values a b (Some us) (Some vs) ps g h k l =
    elim (pointwise (eq_by_cmp term_cmp) us vs) as (λ t. pointwise (eq_by_cmp term_cmp) us vs ≡ t
    → IfSome (option_map (λ ws. record { pattern = cons a b; values = ws }) (if t then Some (Some us) else None)) (λ p. IsTuplePattern p (put_together ps))) [
      | true ↦ λ e. record { gives = some_some (put_term a) (put b) ps us g (ap (map (put b)) (same_lists us vs e) ∙ k); variable = or_first (has_variable_term a) (has_variable b) h }
      | false ↦ λ e. tt
    ] refl

joined_option : (p : Pattern Term) (o : Option (Pattern Terms)) (ps : List (Term × Terms)) → IsTermPattern p (firsts ps) → IfSome o (λ q. IsTuplePattern q (others ps)) → IfSome (joined_patterns p o) (λ r. IsTuplePattern r (put_together ps))
joined_option p None ps h g = tt
joined_option p (Some q) ps h g = joined_values p.pattern q.pattern p.values q.values ps h.gives h.variable g.gives g.variable

separated_pattern : (t : Term) (us : Terms) (uss : List Terms) (o : Option (List (Term × Terms))) → IfSome o (λ ps. put_together ps ≡ uss) → ((ts : List Term) → IsTermPattern (pattern_of_terms t ts) (t ∷ ts))
    → ((vss : List Terms) → IfSome (pattern_of_tuples us vss) (λ p. IsTuplePattern p (us ∷ vss)))
    → IfSome (option_and_then (λ ps. joined_patterns (pattern_of_terms t (firsts ps)) (pattern_of_tuples us (others ps))) o) (λ p. IsTuplePattern p (cons t us ∷ uss))
separated_pattern t us uss None same h g = tt
separated_pattern t us uss (Some ps) same h g =
    subst (λ xs. IfSome (joined_patterns (pattern_of_terms t (firsts ps)) (pattern_of_tuples us (others ps))) (λ p. IsTuplePattern p (cons t us ∷ xs))) same
    (joined_option (pattern_of_terms t (firsts ps)) (pattern_of_tuples us (others ps)) ((t, us) ∷ ps) (h (firsts ps)) (g (others ps)))

mutual
  -- the pattern of terms gives them back
  pub terms_pattern : (t : Term) → is_closed_term_at 0 t ≡ true → (ts : List Term) → IsTermPattern (pattern_of_terms t ts) (t ∷ ts)
  terms_pattern (free v) c ts = by_test (free v) ts (variable_for (free v) ts) c (variable_pattern (free v) ts)
  terms_pattern (bound i) c ts = by_test (bound i) ts (variable_for (bound i) ts) c (variable_pattern (bound i) ts)
  terms_pattern (app s us) c ts =
      by_test (app s us) ts (applied s (option_and_then (pattern_of_tuples us) (arguments s ts)) (app s us) ts) c
      (applied_pattern s us ts (arguments s ts) (arguments_are s ts) (tuples_pattern us c))

  -- and so does that of tuples
  pub tuples_pattern : (us : Terms) → are_closed_terms_at 0 us ≡ true → (uss : List Terms) → IfSome (pattern_of_tuples us uss) (λ p. IsTuplePattern p (us ∷ uss))
  tuples_pattern nil c uss =
      elim (are_empty uss) as (λ b. are_empty uss ≡ b → IfSome (if b then Some (record { pattern = nil; values = None }) else None) (λ p. IsTuplePattern p (nil ∷ uss))) [
        | true ↦ λ e. record { gives = λ v. (refl, each_empty uss e); variable = refl }
        | false ↦ λ e. tt
      ] refl
  tuples_pattern (cons t us) c uss =
      separated_pattern t us uss (separated uss) (separated_are uss) (terms_pattern t (and_left _ _ c)) (tuples_pattern us (and_right (is_closed_term_at 0 t) _ c))
