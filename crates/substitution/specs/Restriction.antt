-- Maps without the bindings that a set of variables doesn't need.
use Rattle.std.specs.Prelude.{Bool, ◌&&◌, not}
use Rattle.std.specs.FinMap as fin
use Rattle.std.specs.Ordering.{eq_by_cmp}
use Rattle.fol.specs.declared.symbols.Var.{Var}
use Rattle.fol.specs.Syntax.{free}
use Rattle.fol.specs.Order.{term_cmp}
use Rattle.finite.specs.Finite as set
use Rattle.free_variables.specs.Sets.{VarSet}
use Rattle.substitution.specs.Image.{image_term}
use Rattle.substitution.specs.Maps.{Map}

-- whether the map sends a variable to another term than itself
abbrev pub is_moved : Map → Var → Bool
is_moved m v = not (eq_by_cmp term_cmp (image_term (fin.get m) (free v)) (free v))

-- the bindings of a set's variables, but for those that the map sends to themselves
abbrev pub restricted : Map → VarSet → Map
restricted m vs = fin.retain_keys m (λ v. set.has vs v && is_moved m v)
