-- Finite maps from variables to terms, and their order.
use Rattle.std.specs.Coded.{Coded}
use Rattle.std.specs.Cmp.{IsTotalOrder}
use Rattle.std.specs.Cmp.Lexicographic.{slice_cmp}
use Rattle.std.specs.declared.cmp.Ordering.{Ordering}
use Rattle.std.specs.Ordering.{ordering_then}
use Rattle.std.specs.FinMap as fin
use Rattle.std.proofs.lemmas.Cmp.{lists_total, on_total, then_total}
use Rattle.fol.specs.declared.symbols.Var.{Var}
use Rattle.fol.specs.Syntax.{Term}
use Rattle.fol.specs.Order.{var_cmp, term_cmp}
use Rattle.fol.specs.OrderLaws.{var_total, term_total}
use Rattle.fol.specs.Codes.{coded_term}
use Rattle.finite.specs.Finite as set
use Rattle.free_variables.specs.Sets.{VarSet, coded_var}

-- a finite map from variables to terms
abbrev pub Map : Type 0
Map = fin.FinMap var_cmp Term

abbrev pub coded_map : Coded Map
coded_map = fin.code coded_var coded_term

-- the variables that have a term
abbrev pub domain : Map → VarSet
domain m = set.of_list (fin.keys m)

-- the map with one binding
abbrev pub only : Var → Term → Map
only v t = fin.insert fin.empty v t

-- bindings are ordered by the variable, and then by the term
abbrev pub binding_cmp : Var × Term → Var × Term → Ordering
binding_cmp x y = ordering_then (var_cmp x.0 y.0) (term_cmp x.1 y.1)

-- maps are ordered by their bindings in rising order. A map is after each of its beginnings
abbrev pub map_cmp : Map → Map → Ordering
map_cmp m n = slice_cmp binding_cmp (fin.entries m) (fin.entries n)

pub map_total : IsTotalOrder map_cmp
map_total = on_total fin.entries (lists_total (then_total (on_total (λ b. b.0) var_total) (on_total (λ b. b.1) term_total)))
