-- Matching: a map under which patterns become given terms. The variables of those stay as they are, so patterns and terms may share some.
--     IsWithin      a map does what a finite map says of its variables
--     match_term, match_onto      the least map that does
use Rattle.std.specs.Prelude.{◌≡◌, ◌==◌, if◌then◌else◌, List, [], ◌∷◌, Option, Some, None, option_and_then}
use Rattle.std.specs.Ordering.{eq_by_cmp}
use Rattle.std.specs.FinMap as fin
use Rattle.fol.specs.declared.symbols.Var.{Var}
use Rattle.fol.specs.Syntax.{Term, free, bound, app, Terms, nil, cons}
use Rattle.fol.specs.Order.{sym_cmp, term_cmp}
use Rattle.substitution.specs.Image.{image_term}
use Rattle.substitution.specs.Maps.{Map}

-- the map h sends each variable of m to the term that m has for it
abbrev pub IsWithin : Map → (Var → Option Term) → Type 0
IsWithin m h = (v : Var) (s : Term) → fin.get m v ≡ Some s → image_term h (free v) ≡ s

-- a variable of a pattern at a term: it has no term yet, or this one
abbrev pub with_variable : Var → Term → Map → Option Term → Option Map
with_variable x u m None = Some (fin.insert m x u)
with_variable x u m (Some s) = if eq_by_cmp term_cmp s u then Some m else None

-- the map m, with terms for the further variables of a pattern, under which this becomes the other term
abbrev mutual
  pub match_term : Term → Term → Map → Option Map
  match_term (free x) u m = with_variable x u m (fin.get m x)
  match_term (bound i) (bound j) m = if i == j then Some m else None
  match_term (app f ts) (app g us) m = if eq_by_cmp sym_cmp f g then match_terms ts us m else None
  match_term t u m = None

  pub match_terms : Terms → Terms → Map → Option Map
  match_terms nil nil m = Some m
  match_terms (cons t ts) (cons u us) m = option_and_then (match_terms ts us) (match_term t u m)
  match_terms ts us m = None

-- the same of two lists, term by term
abbrev pub match_each : List Term → List Term → Map → Option Map
match_each [] [] m = Some m
match_each (t ∷ ts) (u ∷ us) m = option_and_then (match_each ts us) (match_term t u m)
match_each ts us m = None

-- the map under which the patterns become the terms
unfoldable pub match_onto : List Term → List Term → Option Map
match_onto ts us = match_each ts us fin.empty
