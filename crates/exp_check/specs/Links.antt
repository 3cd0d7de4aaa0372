-- Links between numbers, as edges between the variables that have these numbers in a list.
--     is_link, has_link      whether a link is that of two numbers, and whether a list has it
--     AreWithin      the numbers of links are below a count
--     IsNumber      the number of a variable in a list
--     AreLinks      links are the edges between the variables of a list
use Rattle.std.specs.Prelude.{◌≡◌, ℕ, ◌<◌, Bool, false, ◌&&◌, List, length, nat_eq, slice_index_or, Option, Some, None}
use Rattle.std.specs.List.{All, list_any}
use Rattle.std.specs.Ordering.{eq_by_cmp}
use Rattle.fol.specs.declared.symbols.Var.{Var}
use Rattle.fol.specs.Order.{var_cmp}
use Rattle.exp_check.specs.Edges.{has_edge}
use Rattle.exp_check.specs.declared.dependency.Edge.{Edge}
use Rattle.exp_check.specs.declared.links.Link.{Link}

abbrev pub is_link : ℕ → ℕ → Link → Bool
is_link i j l = nat_eq l.before i && nat_eq l.after j

abbrev pub has_link : List Link → ℕ → ℕ → Bool
has_link ls i j = list_any (is_link i j) ls

-- both numbers of each link are below a count
abbrev pub AreWithin : ℕ → List Link → Type 0
AreWithin n ls = All (λ l. (l.before < n) × (l.after < n)) ls

-- the place of a variable in a list, where there is one
abbrev pub IsNumber : List Var → Var → Option ℕ → Type 0
IsNumber vs v None = (i : ℕ) (d : Var) → i < length vs → eq_by_cmp var_cmp (slice_index_or vs i d) v ≡ false
IsNumber vs v (Some k) = (k < length vs) × ((i : ℕ) (d : Var) → i < length vs → eq_by_cmp var_cmp (slice_index_or vs i d) v ≡ nat_eq k i)

pub record AreLinks (vs : List Var) (es : List Edge) (ls : List Link) : Type 0 where
  pub within : AreWithin (length vs) ls
  pub linked : (i j : ℕ) (d : Var) → i < length vs → j < length vs → has_link ls i j ≡ has_edge es (slice_index_or vs i d) (slice_index_or vs j d)
