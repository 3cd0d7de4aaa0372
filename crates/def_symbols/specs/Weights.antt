-- How many nodes a formula has once arguments are put for its indices: an index counts as many as its argument has.
--     size_for      the number for an index
--     weight_of_term, weight_of_terms, weight_of      nodes of a term, of a list and of a formula
--     cut, cut_sizes      numbers of arguments, cut off above the most nodes that a definition may have
use Rattle.std.specs.Prelude.{ℕ, ◌+◌, ◌-◌, ◌==◌, if◌then◌else◌, min, List, [], ◌∷◌}
use Rattle.fol.specs.Syntax.{Term, free, bound, app, Terms, nil, cons, Formula, atom, top, bot, not, and, or, imp, all, ex}
use Rattle.def_laws.specs.Defining.{max_nodes}

-- the number for the index i inside l quantifiers, the outermost of which is that of the first argument; an index of none counts one
abbrev pub size_for : List ℕ → ℕ → ℕ → ℕ
size_for [] l i = 1
size_for (n ∷ ns) l i = if i + 1 == l then n else size_for ns (l - 1) i

-- the nodes of a term inside l quantifiers, where arguments of these sizes are put for their indices
abbrev mutual
  pub weight_of_term : List ℕ → ℕ → Term → ℕ
  weight_of_term ns l (free v) = 1
  weight_of_term ns l (bound i) = size_for ns l i
  weight_of_term ns l (app s ts) = weight_of_terms ns l ts + 1

  pub weight_of_terms : List ℕ → ℕ → Terms → ℕ
  weight_of_terms ns l nil = 0
  weight_of_terms ns l (cons t ts) = weight_of_term ns l t + weight_of_terms ns l ts

abbrev pub weight_of : List ℕ → ℕ → Formula → ℕ
weight_of ns l (atom p ts) = weight_of_terms ns l ts + 1
weight_of ns l top = 1
weight_of ns l bot = 1
weight_of ns l (not f) = weight_of ns l f + 1
weight_of ns l (and f g) = weight_of ns l f + weight_of ns l g + 1
weight_of ns l (or f g) = weight_of ns l f + weight_of ns l g + 1
weight_of ns l (imp f g) = weight_of ns l f + weight_of ns l g + 1
weight_of ns l (all f) = weight_of ns (l + 1) f + 1
weight_of ns l (ex f) = weight_of ns (l + 1) f + 1

-- a number, or one more than a definition may have nodes
abbrev pub cut : ℕ → ℕ
cut n = min n (max_nodes + 1)

-- the sizes of a list's terms inside l quantifiers, cut off
abbrev pub cut_sizes : List ℕ → ℕ → Terms → List ℕ
cut_sizes ns l nil = []
cut_sizes ns l (cons t ts) = cut (weight_of_term ns l t) ∷ cut_sizes ns l ts
