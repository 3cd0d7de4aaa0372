-- Lists of pairs of variables, of which the first is free in the term of an instance above a strong quantifier of the second.
--     is_edge, has_edge      whether a pair is that of two variables, and whether a list has it
--     IsExtended      a list has the pairs of another and those that pass a test
use Rattle.std.specs.Prelude.{◌≡◌, Bool, ◌&&◌, ◌||◌, List}
use Rattle.std.specs.List.{list_any}
use Rattle.std.specs.Ordering.{eq_by_cmp}
use Rattle.fol.specs.declared.symbols.Var.{Var}
use Rattle.fol.specs.Order.{var_cmp}
use Rattle.exp_check.specs.declared.dependency.Edge.{Edge}

abbrev pub is_edge : Var → Var → Edge → Bool
is_edge y z e = eq_by_cmp var_cmp y e.before && eq_by_cmp var_cmp e.after z

abbrev pub has_edge : List Edge → Var → Var → Bool
has_edge es y z = list_any (is_edge y z) es

abbrev pub IsExtended : List Edge → List Edge → (Var → Var → Bool) → Type 0
IsExtended old new test = (y z : Var) → has_edge new y z ≡ (has_edge old y z || test y z)
