-- What contracts see of the variables that are given: the variables that aren't given, and the places that have got one, in order.
use Rattle.std.specs.Prelude.{ℕ, List}
use Rattle.std.specs.Coded.{Coded}
use base.Stored.{coded×, coded_ℕ, coded_list, coded_via}
use Rattle.fol.specs.declared.symbols.Var.{Var}
use Rattle.free_variables.specs.Sets.{coded_var}

pub record Named : Type 0 where
  pub outside : List Var
  pub places : List ℕ

abbrev pub coded_named : Coded Named
coded_named = coded_via (coded× (coded_list coded_var) (coded_list coded_ℕ)) (λ (n : Named). (n.outside, n.places)) (λ x y e i. record { outside = (e i).0; places = (e i).1 })
