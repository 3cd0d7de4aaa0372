-- How many nodes a formula has: its connectives, quantifiers, constants, atoms, variables and applications. Bodies aren't looked into.
use Rattle.std.specs.Prelude.{ℕ, ◌+◌}
use Rattle.fol.specs.Syntax.{Term, free, bound, app, Terms, nil, cons, Formula, atom, top, bot, not, and, or, imp, all, ex}

abbrev mutual
  pub nodes_of_term : Term → ℕ
  nodes_of_term (free v) = 1
  nodes_of_term (bound i) = 1
  nodes_of_term (app s ts) = nodes_of_terms ts + 1

  pub nodes_of_terms : Terms → ℕ
  nodes_of_terms nil = 0
  nodes_of_terms (cons t ts) = nodes_of_term t + nodes_of_terms ts

abbrev pub nodes_of : Formula → ℕ
nodes_of (atom p ts) = nodes_of_terms ts + 1
nodes_of top = 1
nodes_of bot = 1
nodes_of (not f) = nodes_of f + 1
nodes_of (and f g) = nodes_of f + nodes_of g + 1
nodes_of (or f g) = nodes_of f + nodes_of g + 1
nodes_of (imp f g) = nodes_of f + nodes_of g + 1
nodes_of (all f) = nodes_of f + 1
nodes_of (ex f) = nodes_of f + 1
