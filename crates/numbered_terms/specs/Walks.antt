-- The values of rows, in the order in which they are looked for.
--     terms_from      the terms of a list from a place on
--     tail_of      a list without its first term
--     lists_from, column_of      the arguments of numbered terms from a place on, and at a place
--     has_head, have_head      whether terms are applications of the symbol of a first one
--     tuple_values, term_values      the values at which tuples, or terms, differ
use Rattle.std.specs.Prelude.{ℕ, zero, suc, Bool, false, if◌then◌else◌, List, ◌∷◌, map, Option, Some, None, option_map}
use Rattle.std.specs.Option.{unwrap_or}
use Rattle.std.specs.List.{list_all}
use Rattle.std.specs.Ordering.{eq_by_cmp}
use Rattle.fol.specs.declared.symbols.Sym.{Sym}
use Rattle.fol.specs.Syntax.{Term, free, bound, app, Terms, nil, cons}
use Rattle.fol.specs.Order.{sym_cmp, term_cmp}
use Rattle.herbrand_laws.specs.Patterns.{separated, pattern_of_tuples}
use Rattle.arena_cells.specs.Items.{Item}
use Rattle.numbered_terms.specs.Numbered.{arguments_of, tuple_at}

-- a list without its first term
abbrev pub tail_of : Terms → Terms
tail_of nil = nil
tail_of (cons t us) = us

-- the terms of a list from a place on
abbrev pub terms_from : ℕ → Terms → Terms
terms_from zero us = us
terms_from (suc k) nil = nil
terms_from (suc k) (cons t us) = terms_from k us

-- the lists of arguments of numbered terms from a place on
abbrev pub lists_from : List Item → ℕ → List ℕ → List Terms
lists_from a k ns = map (λ n. terms_from k (tuple_at a n)) ns

-- the arguments of numbered terms at a place, where each has one
abbrev pub column_of : List Item → ℕ → List ℕ → Option (List Term)
column_of a k ns = option_map (λ ps. map (λ p. p.0) ps) (separated (lists_from a k ns))

-- whether a term is an application of a symbol
abbrev pub has_head : Sym → Term → Bool
has_head s (free v) = false
has_head s (bound i) = false
has_head s (app r us) = eq_by_cmp sym_cmp s r

-- whether the first term is an application, and the others are of the same symbol
abbrev pub have_head : Term → List Term → Bool
have_head (free v) ts = false
have_head (bound i) ts = false
have_head (app s us) ts = list_all (has_head s) ts

-- the values of the pattern of tuples, if they have one
abbrev pub tuple_values : Terms → List Terms → Option (Option (List Term))
tuple_values us uss = option_map (λ p. p.values) (pattern_of_tuples us uss)

-- the values of the pattern of terms: none of equal ones; those of their arguments, if they have the same symbol and these have a pattern;
-- else the terms
abbrev pub term_values : Term → List Term → Option (List Term)
term_values t ts =
    if list_all (eq_by_cmp term_cmp t) ts then None
    else (if have_head t ts then unwrap_or (tuple_values (arguments_of t) (map arguments_of ts)) (Some (t ∷ ts)) else Some (t ∷ ts))
