-- Which bindings of a map a set of variables needs, by numbers.
use Rattle.std.specs.Prelude.{ℕ, Bool, ◌&&◌, not, List}
use Rattle.std.specs.List.{list_any}
use Rattle.std.specs.Ordering.{nat_cmp, eq_by_cmp}

-- whether the variable is in the set, and its term is another one
abbrev pub is_kept : List ℕ → ℕ → ℕ → Bool
is_kept ss n t = list_any (eq_by_cmp nat_cmp n) ss && not (eq_by_cmp nat_cmp t n)
