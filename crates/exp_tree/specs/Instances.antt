-- How many instances stand at the weak quantifiers of trees, where a part that stands at several places counts at each.
use Rattle.std.specs.Prelude.{ℕ, ◌+◌, List, [], ◌∷◌}
use Rattle.expansion_laws.specs.Expansions.{Exp as Tree, wk, leaf, neg, conj, disj, impl, weak, strong, Insts, none, more}
use Rattle.expansion_laws.specs.Dependency.{Expansion}

abbrev mutual
  pub instances : Tree → ℕ
  instances (wk f) = 0
  instances (leaf f) = 0
  instances (neg e) = instances e
  instances (conj d e) = instances d + instances e
  instances (disj d e) = instances d + instances e
  instances (impl d e) = instances d + instances e
  instances (weak f is) = instances_in is
  instances (strong f y e) = instances e

  -- the instances of a list with those in their trees
  pub instances_in : Insts → ℕ
  instances_in none = 0
  instances_in (more t e is) = 1 + instances e + instances_in is

abbrev pub instances_each : List Tree → ℕ
instances_each [] = 0
instances_each (e ∷ es) = instances e + instances_each es

abbrev pub instances_of : Expansion → ℕ
instances_of x = instances_each x.left + instances_each x.right
