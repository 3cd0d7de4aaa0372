-- Patterns of terms and of tuples of terms: what several of them have in common, with one variable where they differ.
--     put, put_term      a pattern with a term for its variable
--     has_variable, has_variable_term      whether a pattern has its variable
--     Pattern      a pattern of several, and the values of its variable that give them back
--     pattern_of_terms, pattern_of_tuples      the pattern of a first one and others
--     TermSet, Row, delta      the pattern of a list of tuples and the set of its values
--     IsRow      a row gives tuples back
use Rattle.std.specs.Prelude.{◌≡◌, Bool, true, false, ◌||◌, ◌==◌, if◌then◌else◌, List, [], ◌∷◌, map, Option, Some, None, option_map, option_and_then}
use Rattle.std.specs.List.{list_all}
use Rattle.std.specs.Ordering.{eq_by_cmp}
use Rattle.std.specs.Cmp.Lexicographic.{pointwise}
use Rattle.fol.specs.declared.symbols.Sym.{Sym}
use Rattle.fol.specs.Syntax.{Term, free, bound, app, Terms, nil, cons}
use Rattle.fol.specs.Order.{sym_cmp, term_cmp}
use Rattle.finite.specs.Finite as set
use Rattle.substitution.specs.Instance.{inst_term_at, inst_terms_at}

-- a term for the variable of a pattern, which is `bound 0`
abbrev pub put_term : Term → Term → Term
put_term p t = inst_term_at t 0 p

abbrev pub put : Terms → Term → Terms
put p t = inst_terms_at t 0 p

-- whether the variable stands in a pattern
abbrev mutual
  pub has_variable_term : Term → Bool
  has_variable_term (free v) = false
  has_variable_term (bound i) = i == 0
  has_variable_term (app s ts) = has_variable ts

  pub has_variable : Terms → Bool
  has_variable nil = false
  has_variable (cons t ts) = has_variable_term t || has_variable ts

-- a pattern of several, and the values of its variable, one for each in order; no values where all are equal
pub record Pattern (A : Type 0) : Type 0 where
  pub pattern : A
  pub values : Option (List Term)

-- the terms are equal
abbrev pub constant : Term → Pattern Term
constant t = record { pattern = t; values = None }

-- the terms have nothing in common
abbrev pub variable_for : Term → List Term → Pattern Term
variable_for t ts = record { pattern = bound 0; values = Some (t ∷ ts) }

-- the arguments of the terms, where each is an application of the symbol
abbrev pub arguments_under : Sym → Sym → Terms → Option (List Terms) → Option (List Terms)
arguments_under s r us rest = if eq_by_cmp sym_cmp s r then option_map (λ uss. us ∷ uss) rest else None

abbrev pub arguments : Sym → List Term → Option (List Terms)
arguments s [] = Some []
arguments s (free v ∷ ts) = None
arguments s (bound i ∷ ts) = None
arguments s (app r us ∷ ts) = arguments_under s r us (arguments s ts)

-- the first term and the others of each tuple, where each has one
abbrev pub separated : List Terms → Option (List (Term × Terms))
separated [] = Some []
separated (nil ∷ uss) = None
separated (cons t us ∷ uss) = option_map (λ rest. (t, us) ∷ rest) (separated uss)

abbrev pub are_empty : List Terms → Bool
are_empty [] = true
are_empty (nil ∷ uss) = are_empty uss
are_empty (cons t us ∷ uss) = false

-- the values of two patterns together, unless both have values and these differ
abbrev pub common : Option (List Term) → Option (List Term) → Option (Option (List Term))
common None vs = Some vs
common (Some us) None = Some (Some us)
common (Some us) (Some vs) = if pointwise (eq_by_cmp term_cmp) us vs then Some (Some us) else None

-- the pattern of tuples by that of their first terms and that of the others
abbrev pub joined_patterns : Pattern Term → Option (Pattern Terms) → Option (Pattern Terms)
joined_patterns p None = None
joined_patterns p (Some q) = option_map (λ vs. record { pattern = cons p.pattern q.pattern; values = vs }) (common p.values q.values)

-- the pattern of applications of one symbol by that of their arguments
abbrev pub applied : Sym → Option (Pattern Terms) → Term → List Term → Pattern Term
applied s None t ts = variable_for t ts
applied s (Some p) t ts = record { pattern = app s p.pattern; values = p.values }

-- The pattern of a first term, or a first tuple, and others. Equal terms give themselves. Applications of one symbol give the application of
-- the patterns of their arguments, if those with the variable have the same values. Other terms give the variable. Tuples give the patterns of
-- their terms, if those with the variable have the same values.
abbrev mutual
  pub pattern_of_terms : Term → List Term → Pattern Term
  pattern_of_terms (free v) ts = if list_all (eq_by_cmp term_cmp (free v)) ts then constant (free v) else variable_for (free v) ts
  pattern_of_terms (bound i) ts = if list_all (eq_by_cmp term_cmp (bound i)) ts then constant (bound i) else variable_for (bound i) ts
  pattern_of_terms (app s us) ts =
      if list_all (eq_by_cmp term_cmp (app s us)) ts then constant (app s us)
      else applied s (option_and_then (pattern_of_tuples us) (arguments s ts)) (app s us) ts

  pub pattern_of_tuples : Terms → List Terms → Option (Pattern Terms)
  pattern_of_tuples nil uss = if are_empty uss then Some (record { pattern = nil; values = None }) else None
  pattern_of_tuples (cons t us) uss = option_and_then (λ ps. joined_patterns (pattern_of_terms t (map (λ p. p.0) ps)) (pattern_of_tuples us (map (λ p. p.1) ps))) (separated uss)

-- finite sets of terms
abbrev pub TermSet : Type 0
TermSet = set.Finite term_cmp

-- a pattern of tuples, and the set of its values
pub record Row : Type 0 where
  pub pattern : Terms
  pub values : TermSet

abbrev pub row_with : Terms → Option (List Term) → Option Row
row_with p None = None
row_with p (Some vs) = Some (record { pattern = p; values = set.of_list vs })

abbrev pub row_of : Option (Pattern Terms) → Option Row
row_of None = None
row_of (Some p) = row_with p.pattern p.values

-- the row of a list of tuples, if their terms have the same values where they differ
abbrev pub delta : List Terms → Option Row
delta [] = None
delta (us ∷ uss) = row_of (pattern_of_tuples us uss)

-- a row gives the tuples back, each by a value, and its pattern has the variable
pub record IsRow (uss : List Terms) (r : Row) : Type 0 where
  pub list : List Term
  pub values : r.values ≡ set.of_list list
  pub gives : map (put r.pattern) list ≡ uss
  pub variable : has_variable r.pattern ≡ true
