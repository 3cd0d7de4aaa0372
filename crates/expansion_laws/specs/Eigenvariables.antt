-- The conditions on the variables of strong quantifiers.
--     times      how often a variable stands in a list
--     is_repeated      whether it stands there more than once
--     is_free_eigenvariable      whether it stands there and is free in a sequent
--     IsLeast      what is found is the least variable that passes a test
use Rattle.std.specs.Prelude.{◌≡◌, ℕ, nat_lt, Bool, true, false, ◌&&◌, List, Option, Some, None}
use Rattle.std.specs.List.{count_by, list_any}
use Rattle.std.specs.Ordering.{eq_by_cmp}
use Rattle.std.specs.declared.cmp.Ordering.TheVariants.{Less}
use Rattle.fol.specs.declared.symbols.Var.{Var}
use Rattle.fol.specs.Order.{var_cmp}
use Rattle.lk_rules.specs.declared.sequent.Sequent.{Sequent}
use Rattle.lk_rules.specs.Sequents.{is_free_in_sequent}

abbrev pub times : List Var → Var → ℕ
times vs v = count_by (eq_by_cmp var_cmp v) vs

abbrev pub is_repeated : List Var → Var → Bool
is_repeated vs v = nat_lt 1 (times vs v)

abbrev pub is_free_eigenvariable : Sequent → List Var → Var → Bool
is_free_eigenvariable s vs v = list_any (eq_by_cmp var_cmp v) vs && is_free_in_sequent v s

abbrev pub IsLeast : (Var → Bool) → Option Var → Type 0
IsLeast p None = (w : Var) → p w ≡ false
IsLeast p (Some v) = (p v ≡ true) × ((w : Var) → var_cmp w v ≡ Less → p w ≡ false)
