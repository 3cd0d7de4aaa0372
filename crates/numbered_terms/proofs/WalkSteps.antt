-- The values of rows, step by step.
use Rattle.std.proofs.Common.{◌≡◌, ℕ, zero, suc, ◌+◌, ◌<◌, ◌≤◌, Bool, true, false, ◌&&◌, if◌then◌else◌, List, [], ◌∷◌, map, length, get_or, Option, Some, None, option_map, option_and_then, refl, sym, ap, ◌∙◌, arith}
use Rattle.std.specs.Option.{unwrap_or}
use Rattle.std.specs.List.{list_all}
use Rattle.std.specs.Ordering.{eq_by_cmp}
use Rattle.fol.specs.declared.symbols.Sym.{Sym}
use Rattle.fol.specs.Syntax.{Term, free, bound, app, Terms, nil, cons}
use Rattle.fol.specs.Order.{sym_cmp, term_cmp}
use Rattle.herbrand_laws.specs.Patterns.{Pattern, constant, variable_for, arguments_under, arguments, separated, common, joined_patterns, applied, pattern_of_terms, pattern_of_tuples, Row, row_with, row_of, delta}
use Rattle.finite.specs.Finite as set
use Rattle.std.proofs.Math.ListN.{get_or-map}
use Rattle.std.proofs.lemmas.List.{length-map}
use Rattle.arena_cells.specs.Items.{Item}
use Rattle.arena_cells.specs.Standing.{term_at}
use Rattle.numbered_terms.specs.declared.nodes.Node.{Node}
use Rattle.numbered_terms.specs.Numbered.{arguments_of, tuple_at, tuples_at}
use Rattle.numbered_terms.specs.Nodes.{listed, head_of, IsNode}
use Rattle.numbered_terms.specs.Walks.{tail_of, terms_from, lists_from, column_of, has_head, have_head, tuple_values, term_values}

-- terms

-- the arguments of applications of one symbol
all_arguments : (s : Sym) (ts : List Term) → arguments s ts ≡ (if list_all (has_head s) ts then Some (map arguments_of ts) else None)
all_arguments s [] = refl
all_arguments s (free v ∷ ts) = refl
all_arguments s (bound i ∷ ts) = refl
all_arguments s (app r us ∷ ts) =
    ap (arguments_under s r us) (all_arguments s ts)
    ∙ elim (eq_by_cmp sym_cmp s r) as (λ b. (if b then option_map (λ uss. us ∷ uss) (if list_all (has_head s) ts then Some (map arguments_of ts) else None) else None) ≡ (if b && list_all (has_head s) ts then Some (us ∷ map arguments_of ts) else None)) [
      | true ↦ elim (list_all (has_head s) ts) as (λ b. option_map (λ uss. us ∷ uss) (if b then Some (map arguments_of ts) else None) ≡ (if b then Some (us ∷ map arguments_of ts) else None)) [ true ↦ refl | false ↦ refl ]
      | false ↦ refl
    ]

applied_values : (s : Sym) (o : Option (Pattern Terms)) (t : Term) (ts : List Term) → unwrap_or (option_map (λ p. p.values) o) (Some (t ∷ ts)) ≡ (applied s o t ts).values
applied_values s None t ts = refl
applied_values s (Some p) t ts = refl

applied_by : (s : Sym) (us : Terms) (ts : List Term) (b : Bool)
    → (if b then unwrap_or (tuple_values us (map arguments_of ts)) (Some (app s us ∷ ts)) else Some (app s us ∷ ts))
    ≡ (applied s (option_and_then (pattern_of_tuples us) (if b then Some (map arguments_of ts) else None)) (app s us) ts).values
applied_by s us ts true = applied_values s (pattern_of_tuples us (map arguments_of ts)) (app s us) ts
applied_by s us ts false = refl

-- the values of a pattern of terms
pub values_of_terms : (t : Term) (ts : List Term) → term_values t ts ≡ (pattern_of_terms t ts).values
values_of_terms (free v) ts =
    elim (list_all (eq_by_cmp term_cmp (free v)) ts) as (λ b. (if b then None else Some (free v ∷ ts)) ≡ (if b then constant (free v) else variable_for (free v) ts).values) [ true ↦ refl | false ↦ refl ]
values_of_terms (bound i) ts =
    elim (list_all (eq_by_cmp term_cmp (bound i)) ts) as (λ b. (if b then None else Some (bound i ∷ ts)) ≡ (if b then constant (bound i) else variable_for (bound i) ts).values) [ true ↦ refl | false ↦ refl ]
values_of_terms (app s us) ts =
    let under : (if list_all (has_head s) ts then unwrap_or (tuple_values us (map arguments_of ts)) (Some (app s us ∷ ts)) else Some (app s us ∷ ts)) ≡ (applied s (option_and_then (pattern_of_tuples us) (arguments s ts)) (app s us) ts).values =
    applied_by s us ts (list_all (has_head s) ts) ∙ ap (λ o. (applied s (option_and_then (pattern_of_tuples us) o) (app s us) ts).values) (sym (all_arguments s ts)) in
    elim (list_all (eq_by_cmp term_cmp (app s us)) ts) as (λ b.
    (if b then None else (if list_all (has_head s) ts then unwrap_or (tuple_values us (map arguments_of ts)) (Some (app s us ∷ ts)) else Some (app s us ∷ ts)))
    ≡ (if b then constant (app s us) else applied s (option_and_then (pattern_of_tuples us) (arguments s ts)) (app s us) ts).values) [ true ↦ refl | false ↦ under ]

-- the symbol of a term
pub headed : (t : Term) (s : Sym) (ts : List Term) → head_of t ≡ Some s → have_head t ts ≡ list_all (has_head s) ts
headed (free v) s ts e = cc
headed (bound i) s ts e = cc
headed (app r us) s ts e = let same : r ≡ s = cc in ap (λ q. list_all (has_head q) ts) same

pub headless : (t : Term) (ts : List Term) → head_of t ≡ None → have_head t ts ≡ false
headless (free v) ts e = refl
headless (bound i) ts e = refl
headless (app r us) ts e = cc

pub has_that_head : (s : Sym) (t : Term) (r : Sym) → head_of t ≡ Some r → has_head s t ≡ eq_by_cmp sym_cmp s r
has_that_head s (free v) r e = cc
has_that_head s (bound i) r e = cc
has_that_head s (app q us) r e = let same : q ≡ r = cc in ap (eq_by_cmp sym_cmp s) same

pub has_no_head : (s : Sym) (t : Term) → head_of t ≡ None → has_head s t ≡ false
has_no_head s (free v) e = refl
has_no_head s (bound i) e = refl
has_no_head s (app q us) e = cc

-- tuples

joined_by : (p : Pattern Term) (q : Pattern Terms) (o : Option (Option (List Term)))
    → option_map (λ (r : Pattern Terms). r.values) (option_map (λ vs. record { pattern = cons p.pattern q.pattern; values = vs }) o) ≡ o
joined_by p q None = refl
joined_by p q (Some vs) = refl

joined_values : (p : Pattern Term) (o : Option (Pattern Terms)) → option_map (λ q. q.values) (joined_patterns p o) ≡ option_and_then (common p.values) (option_map (λ q. q.values) o)
joined_values p None = refl
joined_values p (Some q) = joined_by p q (common p.values q.values)

-- what is left of tuples behind their first terms
tails_by : (t : Term) (us : Terms) (uss : List Terms) (ps : List (Term × Terms)) (o : Option (List (Term × Terms))) → ((rest : List (Term × Terms)) → o ≡ Some rest → map (λ p. p.1) rest ≡ map tail_of uss)
    → option_map (λ rest. (t, us) ∷ rest) o ≡ Some ps → map (λ p. p.1) ps ≡ us ∷ map tail_of uss
tails_by t us uss ps None later e = cc
tails_by t us uss ps (Some rest) later e =
    let same : ps ≡ (t, us) ∷ rest = cc in
    ap (map (λ p. p.1)) same ∙ ap (λ vss. us ∷ vss) (later rest refl)

tails_separated : (uss : List Terms) (ps : List (Term × Terms)) → separated uss ≡ Some ps → map (λ p. p.1) ps ≡ map tail_of uss
tails_separated [] ps e = let none : ps ≡ [] = cc in ap (map (λ p. p.1)) none
tails_separated (nil ∷ uss) ps e = cc
tails_separated (cons t us ∷ uss) ps e = tails_by t us uss ps (separated uss) (λ rest d. tails_separated uss rest d) e

-- the values of a pattern of tuples, by those of the first terms and those of the others
pub values_of_tuples : (t : Term) (us : Terms) (uss : List Terms)
    → tuple_values (cons t us) uss
    ≡ option_and_then (λ ts. option_and_then (common (pattern_of_terms t ts).values) (tuple_values us (map tail_of uss))) (option_map (λ ps. map (λ p. p.0) ps) (separated uss))
values_of_tuples t us uss = by_pairs (separated uss) refl
  where
    by_pairs : (o : Option (List (Term × Terms))) → separated uss ≡ o
        → option_map (λ (q : Pattern Terms). q.values) (option_and_then (λ ps. joined_patterns (pattern_of_terms t (map (λ p. p.0) ps)) (pattern_of_tuples us (map (λ p. p.1) ps))) o)
        ≡ option_and_then (λ ts. option_and_then (common (pattern_of_terms t ts).values) (tuple_values us (map tail_of uss))) (option_map (λ ps. map (λ p. p.0) ps) o)
    by_pairs None e = refl
    by_pairs (Some ps) e =
        joined_values (pattern_of_terms t (map (λ p. p.0) ps)) (pattern_of_tuples us (map (λ p. p.1) ps))
        ∙ ap (λ vss. option_and_then (common (pattern_of_terms t (map (λ p. p.0) ps)).values) (tuple_values us vss)) (tails_separated uss ps e)

-- places

from_nothing : (k : ℕ) → terms_from k nil ≡ nil
from_nothing zero = refl
from_nothing (suc k) = refl

pub tail-from : (k : ℕ) (us : Terms) → tail_of (terms_from k us) ≡ terms_from (suc k) us
tail-from zero nil = refl
tail-from zero (cons t us) = refl
tail-from (suc k) nil = refl
tail-from (suc k) (cons t us) = tail-from k us

pub from_listed : (ts : List Term) (k : ℕ) (d : Term) → k < length ts → terms_from k (listed ts) ≡ cons (get_or ts k d) (terms_from (suc k) (listed ts))
from_listed [] k d l = absurd (omega arith)
from_listed (t ∷ ts) zero d l = refl
from_listed (t ∷ ts) (suc k) d l = from_listed ts k d (omega arith)

pub from_end : (ts : List Term) (k : ℕ) → length ts ≤ k → terms_from k (listed ts) ≡ nil
from_end [] k l = from_nothing k
from_end (t ∷ ts) zero l = absurd (omega arith)
from_end (t ∷ ts) (suc k) l = from_end ts k (omega arith)

-- the arguments of a node

pub argument_there : (a : List Item) (n : ℕ) (d : Node) (k : ℕ) → IsNode a n d → k < length d.arguments.items
    → terms_from k (tuple_at a n) ≡ cons (term_at a (get_or d.arguments.items k 0)) (terms_from (k + 1) (tuple_at a n))
argument_there a n d k h l =
    let ts = map (term_at a) d.arguments.items in
    let long = length-map d.arguments.items (term_at a) in
    let next : suc k ≡ k + 1 = omega arith in
    ap (terms_from k) (sym h.arguments)
    ∙ (from_listed ts k (term_at a 0) (omega arith)
    ∙ λ i. cons (get_or-map (term_at a) d.arguments.items k 0 i) (terms_from (next i) (h.arguments i)))

pub argument_none : (a : List Item) (n : ℕ) (d : Node) (k : ℕ) → IsNode a n d → length d.arguments.items ≤ k → terms_from k (tuple_at a n) ≡ nil
argument_none a n d k h l =
    let long = length-map d.arguments.items (term_at a) in
    ap (terms_from k) (sym h.arguments) ∙ from_end (map (term_at a) d.arguments.items) k (omega arith)

-- rows

set_by_values : (p : Terms) (vs : Option (List Term)) → option_map (set.adds_each (set.empty {R = term_cmp})) vs ≡ option_map (λ (r : Row). r.values) (row_with p vs)
set_by_values p None = refl
set_by_values p (Some vs) = refl

set_by_pattern : (p : Option (Pattern Terms)) → option_map (set.adds_each (set.empty {R = term_cmp})) (option_and_then (λ vs. vs) (option_map (λ q. q.values) p)) ≡ option_map (λ (r : Row). r.values) (row_of p)
set_by_pattern None = refl
set_by_pattern (Some p) = set_by_values p.pattern p.values

-- what a step of the code gives

module _ (a : List Item) where
  at_start : (ns : List ℕ) → lists_from a 0 ns ≡ map arguments_of (map (term_at a) ns)
  at_start [] = refl
  at_start (n ∷ ns) = ap (λ uss. tuple_at a n ∷ uss) (at_start ns)

  later_lists : (k : ℕ) (ns : List ℕ) → map tail_of (lists_from a k ns) ≡ lists_from a (k + 1) ns
  later_lists k [] = refl
  later_lists k (n ∷ ns) =
      let next : suc k ≡ k + 1 = omega arith in
      λ i. (tail-from k (tuple_at a n) ∙ ap (λ j. terms_from j (tuple_at a n)) next) i ∷ later_lists k ns i

  -- of equal terms
  pub equal_values : (t : Term) (ts : List Term) → list_all (eq_by_cmp term_cmp t) ts ≡ true → None ≡ (pattern_of_terms t ts).values
  equal_values t ts e =
      (λ i. if sym e i then None else (if have_head t ts then unwrap_or (tuple_values (arguments_of t) (map arguments_of ts)) (Some (t ∷ ts)) else Some (t ∷ ts))) ∙ values_of_terms t ts

  -- of terms with other symbols
  pub other_values : (t : Term) (ts : List Term) → list_all (eq_by_cmp term_cmp t) ts ≡ false → have_head t ts ≡ false → Some (t ∷ ts) ≡ (pattern_of_terms t ts).values
  other_values t ts e h =
      (λ i. if sym e i then None else (if sym h i then unwrap_or (tuple_values (arguments_of t) (map arguments_of ts)) (Some (t ∷ ts)) else Some (t ∷ ts))) ∙ values_of_terms t ts

  -- of terms with one symbol, by what their arguments give
  pub inner_values : (n : ℕ) (ns : List ℕ) (o : Option (Option (List Term))) → list_all (eq_by_cmp term_cmp (term_at a n)) (map (term_at a) ns) ≡ false → have_head (term_at a n) (map (term_at a) ns) ≡ true
      → o ≡ tuple_values (terms_from 0 (tuple_at a n)) (lists_from a 0 ns)
      → unwrap_or o (Some (term_at a n ∷ map (term_at a) ns)) ≡ (pattern_of_terms (term_at a n) (map (term_at a) ns)).values
  inner_values n ns o e h g =
      let t = term_at a n in
      let ts = map (term_at a) ns in
      let inner : o ≡ tuple_values (arguments_of t) (map arguments_of ts) = g ∙ ap (tuple_values (arguments_of t)) (at_start ns) in
      ap (λ x. unwrap_or x (Some (t ∷ ts))) inner
      ∙ ((λ i. if sym e i then None else (if sym h i then unwrap_or (tuple_values (arguments_of t) (map arguments_of ts)) (Some (t ∷ ts)) else Some (t ∷ ts))) ∙ values_of_terms t ts)

  -- of tuples, by what their terms at a place and those after it give
  pub joined_at : (n k x : ℕ) (ns column : List ℕ) (front : Option (List Term)) (back : Option (Option (List Term)))
      → terms_from k (tuple_at a n) ≡ cons (term_at a x) (terms_from (k + 1) (tuple_at a n))
      → Some (map (term_at a) column) ≡ column_of a k ns
      → front ≡ (pattern_of_terms (term_at a x) (map (term_at a) column)).values
      → back ≡ tuple_values (terms_from (k + 1) (tuple_at a n)) (lists_from a (k + 1) ns)
      → option_and_then (common front) back ≡ tuple_values (terms_from k (tuple_at a n)) (lists_from a k ns)
  joined_at n k x ns column front back first shown f b =
      let us = terms_from (k + 1) (tuple_at a n) in
      let uss = lists_from a k ns in
      (λ i. option_and_then (common (f i)) (b i))
      ∙ (ap (λ vss. option_and_then (common (pattern_of_terms (term_at a x) (map (term_at a) column)).values) (tuple_values us vss)) (sym (later_lists k ns))
      ∙ (ap (option_and_then (λ ts. option_and_then (common (pattern_of_terms (term_at a x) ts).values) (tuple_values us (map tail_of uss)))) shown
      ∙ (sym (values_of_tuples (term_at a x) us uss) ∙ ap (λ vs. tuple_values vs uss) (sym first))))

  -- of a row
  pub row_set : (n : ℕ) (ns : List ℕ) (o : Option (Option (List Term))) → o ≡ tuple_values (terms_from 0 (tuple_at a n)) (lists_from a 0 ns)
      → option_map (set.adds_each (set.empty {R = term_cmp})) (option_and_then (λ vs. vs) o) ≡ option_map (λ r. r.values) (delta (tuples_at a (n ∷ ns)))
  row_set n ns o e =
      ap (λ x. option_map (set.adds_each (set.empty {R = term_cmp})) (option_and_then (λ vs. vs) x)) e
      ∙ set_by_pattern (pattern_of_tuples (tuple_at a n) (tuples_at a ns))
