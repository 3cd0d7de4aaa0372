-- Worked examples of matrices, tuples, rows and candidates.
use Rattle.std.proofs.Common.{◌≡◌, ℕ, ◌+◌, ◌*◌, true, false, not, cond, [], ◌∷◌, ◌++◌, map, length, Some, None, refl, sym, ap, ◌∙◌}
use Rattle.std.specs.List.{filter, list_any, sum_by}
use Rattle.std.specs.Ordering.{eq_by_cmp}
use Rattle.std.specs.Cmp.Lexicographic.{pointwise}
use Rattle.std.specs.FinMap as fin
use Rattle.std.specs.Cmp.{IsTotalOrder}
use Rattle.std.specs.declared.cmp.Ordering.{Ordering}
use Rattle.fol.specs.declared.symbols.Var.{Var}
use Rattle.fol.specs.Syntax.{Term, free, bound, app, Terms, nil, cons, pred, plain, defined, Formula, atom, top, all}
use Rattle.fol.specs.Order.{term_cmp, terms_cmp}
use Rattle.fol.specs.OrderLaws.{term_total, terms_total}
use Rattle.finite.specs.Finite as set
use Rattle.finite.proofs.Finite.{of_rising-empty}
use Rattle.lk_rules.specs.declared.sequent.Sequent.{Sequent}
use Rattle.lk_rules.specs.declared.sequent.Side.TheVariants.{Left}
use Rattle.lk_rules.specs.declared.rule.Rule.TheVariants.{AllL, AllR}
use Rattle.expansion_laws.specs.Expansions.{wk, leaf, weak, none, more}
use Rattle.herbrand_laws.specs.Herbrand.{is_prenex, tuples_on, Item, quantifiers}
use Rattle.herbrand_laws.specs.Patterns.{put, TermSet, Row, delta}
use Rattle.herbrand_laws.specs.Candidates.{rows_of, same_terms, patterns, is_covered, uncovered, rest, cost, best}
use Rattle.herbrand_laws.specs.Introduction.{rules_for, cut_variable, cut_formula, left_rules, right_rules, by_tuple, matrix_of, assumed, conjunction, matrix_at}

-- symbols a, b, f and p, and terms

abbrev a : Term
a = app (record { name = 97 ∷ []; arity = 0 }) nil

abbrev b : Term
b = app (record { name = 98 ∷ []; arity = 0 }) nil

abbrev f : Term → Term
f t = app (record { name = 102 ∷ []; arity = 1 }) (cons t nil)

abbrev g : Term → Term → Term
g t u = app (record { name = 103 ∷ []; arity = 2 }) (cons t (cons u nil))

abbrev p : Term → Term → Formula
p t u = atom (plain (record { name = 112 ∷ []; arity = 2 })) (cons t (cons u nil))

abbrev two : Term → Term → Terms
two t u = cons t (cons u nil)

-- `![X]: p(X, a)` on the left is a quantifier over a matrix, but not over an atom whose symbol has a body

over_atom : is_prenex Left (all (p (bound 0) a)) ≡ true
over_atom = refl

over_defined : is_prenex Left (all (atom (pred (record { name = 112 ∷ []; arity = 0 }) (defined top)) nil)) ≡ false
over_defined = refl

-- `![X]: ![Y]: p(X, Y)` with its instance by a, of which b is used and f(b) isn't
used : tuples_on Left (weak (all (all (p (bound 1) (bound 0)))) (more a (weak (all (p a (bound 0))) (more b (leaf (p a b)) (more (f b) (wk (p a (f b))) none))) none)) ≡ two a b ∷ []
used = refl

-- the values of both terms are the same
same_values : delta (two (f a) a ∷ two (f b) b ∷ []) ≡ Some (record { pattern = two (f (bound 0)) (bound 0); values = set.of_list (a ∷ b ∷ []) })
same_values = refl

-- an equal term gives itself
one_equal : delta (two a b ∷ two b b ∷ []) ≡ Some (record { pattern = two (bound 0) b; values = set.of_list (a ∷ b ∷ []) })
one_equal = refl

-- with other values at the tuple there is no row
other_values : delta (two (f a) b ∷ two (f b) a ∷ []) ≡ None
other_values = refl

-- under a symbol they give the variable
under_symbol : delta (two (g a b) a ∷ two (g b a) a ∷ []) ≡ Some (record { pattern = two (bound 0) a; values = set.of_list (g a b ∷ g b a ∷ []) })
under_symbol = refl

-- equal tuples have no row
equal_tuples : delta (two a b ∷ two a b ∷ []) ≡ None
equal_tuples = refl

-- rows with the same values may cover the same tuple: here (h, h) and (h, b) both give (b, b)

first_of_two : delta (two a a ∷ two b b ∷ []) ≡ Some (record { pattern = two (bound 0) (bound 0); values = set.of_list (a ∷ b ∷ []) })
first_of_two = refl

second_of_two : delta (two a b ∷ two b b ∷ []) ≡ Some (record { pattern = two (bound 0) b; values = set.of_list (a ∷ b ∷ []) })
second_of_two = refl

-- an item with two tuples has one row, whose values are the best candidate

abbrev item : Item
item = record { side = Left; formula = all (all (p (bound 1) (bound 0))); tuples = two a a ∷ two (f a) (f a) ∷ [] }

abbrev values : TermSet
values = set.of_list (a ∷ f a ∷ [])

one_row : rows_of 2 item ≡ record { pattern = two (bound 0) (bound 0); values = values } ∷ []
one_row = refl

the_best : best 2 (item ∷ []) ≡ Some values
the_best = refl

-- the elements of small sets in order
module _ {K : Type 0} {R : K → K → Ordering} (o : IsTotalOrder R) where
  none_listed : fin.entries (set.empty {R = R}) ≡ []
  none_listed = ap fin.entries (sym (of_rising-empty R)) ∙ fin.entries-from_sorted R [] tt

  listed_one : (x : K) → set.listing (set.adds_each (set.empty {R = R}) (x ∷ [])) ≡ map (λ (e : K × Unit {0}). e.0) (fin.put R x tt [])
  listed_one x = ap (map (λ (e : K × Unit {0}). e.0)) (fin.entries-insert o set.empty x tt ∙ ap (fin.put R x tt) none_listed)

  listed_two : (x y : K) → set.listing (set.adds_each (set.empty {R = R}) (x ∷ y ∷ [])) ≡ map (λ (e : K × Unit {0}). e.0) (fin.put R y tt (fin.put R x tt []))
  listed_two x y =
      ap (map (λ (e : K × Unit {0}). e.0))
      (fin.entries-insert o (set.adds set.empty x) y tt ∙ ap (fin.put R y tt) (fin.entries-insert o set.empty x tt ∙ ap (fin.put R x tt) none_listed))

-- the values in order
listed : set.listing values ≡ a ∷ f a ∷ []
listed = listed_two term_total a (f a)

same_as_values : same_terms values values ≡ true
same_as_values = ap (λ ts. pointwise (eq_by_cmp term_cmp) ts ts) listed

-- the one pattern is (h, h)
one_pattern : patterns 2 values item ≡ two (bound 0) (bound 0) ∷ []
one_pattern =
    let alone : filter (λ (r : Row). same_terms r.values values) (rows_of 2 item) ≡ rows_of 2 item = ap (λ t. cond t (rows_of 2 item) []) same_as_values in
    ap (λ rs. set.listing (set.adds_each (set.empty {R = terms_cmp}) (map (λ (r : Row). r.pattern) rs))) alone ∙ listed_one terms_total (two (bound 0) (bound 0))

-- nothing is left
no_rest : rest 2 values item ≡ []
no_rest = λ i. filter (λ us. not (list_any (λ q. list_any (λ t. eq_by_cmp terms_cmp (put q t) us) (listed i)) (one_pattern i))) item.tuples

-- so it costs 1 for the variable, 2 for the values and 2 for the quantifiers of the pattern
costs : cost 2 (item ∷ []) values ≡ 5
costs = λ i. 1 + length (listed i) + sum_by (λ j. quantifiers j * (length (one_pattern i) + length (no_rest i))) (item ∷ [])

-- the matrix of the cut with a variable y says `p(y, y)`
matrix : (y : Var) → matrix_at 2 (item ∷ []) values (free y) ≡ p (free y) (free y)
matrix y = ap (λ ps. conjunction (map (λ j. assumed j.side (matrix_of j)) (map (by_tuple item) (map (λ q. put q (free y)) ps) ++ []))) one_pattern

-- the left premise has the variable and the instances by the pattern with it, the right one the two values
module _ (s : Sequent) where
  abbrev c : Formula
  c = cut_formula 2 s (item ∷ []) values

  abbrev y : Var
  y = cut_variable s (item ∷ [])

  left : left_rules 2 s (item ∷ []) values ≡ AllR c y ∷ AllL (all (all (p (bound 1) (bound 0)))) (free y) ∷ AllL (all (p (free y) (bound 0))) (free y) ∷ []
  left = ap (λ ps. AllR c y ∷ rules_for (map (by_tuple item) (map (λ q. put q (free y)) ps) ++ [])) one_pattern

  right : right_rules 2 s (item ∷ []) values ≡ AllL c a ∷ AllL c (f a) ∷ []
  right = λ i. map (AllL c) (listed i) ++ rules_for (map (by_tuple item) (no_rest i) ++ [])

-- beside `![X]: q(X)` with three tuples stands `p`, which has no quantifier

abbrev one : Term → Terms
one t = cons t nil

abbrev without : Item
without = record { side = Left; formula = atom (plain (record { name = 112 ∷ []; arity = 0 })) nil; tuples = nil ∷ [] }

abbrev quantified : Item
quantified = record { side = Left; formula = all (atom (plain (record { name = 113 ∷ []; arity = 1 })) (one (bound 0))); tuples = one a ∷ one (f a) ∷ one (f (f a)) ∷ [] }

-- the tuple of `p` isn't covered, as it has no row, and yet isn't in the rest

no_row_without : rows_of 2 without ≡ []
no_row_without = refl

no_pattern_without : patterns 2 values without ≡ []
no_pattern_without = ap (map (λ (e : Terms × Unit {0}). e.0)) (none_listed terms_total)

not_covered : uncovered 2 values without ≡ nil ∷ []
not_covered = λ i. filter (λ us. not (is_covered (no_pattern_without i) values us)) without.tuples

no_rest_without : (width : ℕ) (w : TermSet) → rest width w without ≡ []
no_rest_without width w = refl

-- the three tuples have three rows of two, the first and the last with the values a and f(a)

abbrev first_row : Row
first_row = record { pattern = one (bound 0); values = values }

abbrev other_row : Row
other_row = record { pattern = one (bound 0); values = set.of_list (a ∷ f (f a) ∷ []) }

abbrev last_row : Row
last_row = record { pattern = one (f (bound 0)); values = values }

three_rows : rows_of 2 quantified ≡ first_row ∷ other_row ∷ last_row ∷ []
three_rows = refl

other_differs : same_terms other_row.values values ≡ false
other_differs = λ i. pointwise (eq_by_cmp term_cmp) (listed_two term_total a (f (f a)) i) (listed i)

two_rows : filter (λ (r : Row). same_terms r.values values) (rows_of 2 quantified) ≡ first_row ∷ last_row ∷ []
two_rows =
    let test = λ (r : Row). same_terms r.values values in
    let last : filter test (last_row ∷ []) ≡ last_row ∷ [] = ap (λ b. cond b (last_row ∷ []) []) same_as_values in
    let others : filter test (other_row ∷ last_row ∷ []) ≡ last_row ∷ [] = ap (λ b. cond b (other_row ∷ filter test (last_row ∷ [])) (filter test (last_row ∷ []))) other_differs ∙ last in
    ap (λ b. cond b (first_row ∷ filter test (other_row ∷ last_row ∷ [])) (filter test (other_row ∷ last_row ∷ []))) same_as_values ∙ ap (λ rs. first_row ∷ rs) others

-- so the patterns with these are h and f(h), and nothing is left

two_patterns : patterns 2 values quantified ≡ one (bound 0) ∷ one (f (bound 0)) ∷ []
two_patterns = ap (λ rs. set.listing (set.adds_each (set.empty {R = terms_cmp}) (map (λ (r : Row). r.pattern) rs))) two_rows ∙ listed_two terms_total (one (bound 0)) (one (f (bound 0)))

no_rest_quantified : rest 2 values quantified ≡ []
no_rest_quantified = λ i. filter (λ us. not (list_any (λ q. list_any (λ t. eq_by_cmp terms_cmp (put q t) us) (listed i)) (two_patterns i))) quantified.tuples

no_rests : map (rest 2 values) (without ∷ quantified ∷ []) ≡ [] ∷ [] ∷ []
no_rests = ap (λ uss. [] ∷ uss ∷ []) no_rest_quantified

-- it costs 1 for the variable, 2 for the values and 2 for the quantifiers of the patterns
costs_beside : cost 2 (without ∷ quantified ∷ []) values ≡ 5
costs_beside =
    λ i. 1 + length (listed i) + sum_by (λ n. n) (0 * (length (no_pattern_without i) + 0) ∷ 1 * (length (two_patterns i) + length (no_rest_quantified i)) ∷ [])
