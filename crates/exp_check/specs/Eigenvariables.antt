-- The variables that are found in a sorted list.
--     first_pair      the first element of a list that is followed by one that ties with it
--     first_free      the first one that is free in a sequent
use Rattle.std.specs.Prelude.{List, [], ◌∷◌, Option, Some, None, if◌then◌else◌}
use Rattle.std.specs.Ordering.{eq_by_cmp}
use Rattle.fol.specs.declared.symbols.Var.{Var}
use Rattle.fol.specs.Order.{var_cmp}
use Rattle.lk_rules.specs.declared.sequent.Sequent.{Sequent}
use Rattle.lk_rules.specs.Sequents.{is_free_in_sequent}

abbrev pub first_pair : List Var → Option Var
first_pair [] = None
first_pair (v ∷ []) = None
first_pair (v ∷ w ∷ vs) = if eq_by_cmp var_cmp v w then Some v else first_pair (w ∷ vs)

-- the first variable of a list that is free in a sequent
abbrev pub first_free : Sequent → List Var → Option Var
first_free s [] = None
first_free s (v ∷ vs) = if is_free_in_sequent v s then Some v else first_free s vs
