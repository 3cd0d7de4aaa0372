-- The terms of variables that a search for a map has found, one after another.
--     with_bindings, map_of      the map that they are
--     IsFront      a list to which further ones came
use Rattle.std.specs.Prelude.{◌≡◌, List, [], ◌∷◌, ◌++◌}
use Rattle.std.specs.FinMap as fin
use Rattle.substitution.specs.Maps.{Map}
use Rattle.res_prover.specs.declared.bindings.Binding.{Binding}

abbrev pub with_bindings : Map → List Binding → Map
with_bindings m [] = m
with_bindings m (b ∷ bs) = with_bindings (fin.insert m b.variable.now b.term.now) bs

abbrev pub map_of : List Binding → Map
map_of bs = with_bindings fin.empty bs

pub record IsFront (bs cs : List Binding) : Type 0 where
  pub further : List Binding
  pub is : cs ≡ bs ++ further
