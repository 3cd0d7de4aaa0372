-- The variables of strong quantifiers, and which of them has to be there before which.
--     strongs, strongs_of      the variables of a tree's strong quantifiers
--     Expansion      trees for the two sides of a sequent
--     is_before      one variable comes before another
--     Path, IsAcyclic      one leads to another; none leads to itself
use Rattle.std.specs.Prelude.{◌≡◌, Bool, true, false, ◌&&◌, ◌||◌, List, [], ◌∷◌, ◌++◌}
use Rattle.std.specs.List.{list_any}
use Rattle.std.specs.Ordering.{eq_by_cmp}
use Rattle.fol.specs.declared.symbols.Var.{Var}
use Rattle.fol.specs.Order.{var_cmp}
use Rattle.free_variables.specs.Occurrence.{is_free_in_term}
use Rattle.expansion_laws.specs.Expansions.{Exp, wk, leaf, neg, conj, disj, impl, weak, strong, Insts, none, more}

-- the variables of the strong quantifiers, one for each
abbrev mutual
  pub strongs : Exp → List Var
  strongs (wk f) = []
  strongs (leaf f) = []
  strongs (neg e) = strongs e
  strongs (conj d e) = strongs d ++ strongs e
  strongs (disj d e) = strongs d ++ strongs e
  strongs (impl d e) = strongs d ++ strongs e
  strongs (weak f is) = strongs_in is
  strongs (strong f y e) = y ∷ strongs e

  pub strongs_in : Insts → List Var
  strongs_in none = []
  strongs_in (more t e is) = strongs e ++ strongs_in is

abbrev pub strongs_each : List Exp → List Var
strongs_each [] = []
strongs_each (e ∷ es) = strongs e ++ strongs_each es

-- trees for the formulas of a sequent, on the left and on the right
pub record Expansion : Type 0 where
  pub left : List Exp
  pub right : List Exp

abbrev pub strongs_of : Expansion → List Var
strongs_of x = strongs_each x.left ++ strongs_each x.right

-- whether y is free in the term of an instance above a strong quantifier of z; `above` says whether it is in one further up
abbrev mutual
  pub is_above : Var → Var → Bool → Exp → Bool
  is_above y z above (wk f) = false
  is_above y z above (leaf f) = false
  is_above y z above (neg e) = is_above y z above e
  is_above y z above (conj d e) = is_above y z above d || is_above y z above e
  is_above y z above (disj d e) = is_above y z above d || is_above y z above e
  is_above y z above (impl d e) = is_above y z above d || is_above y z above e
  is_above y z above (weak f is) = is_above_in y z above is
  is_above y z above (strong f w e) = (above && eq_by_cmp var_cmp w z) || is_above y z above e

  pub is_above_in : Var → Var → Bool → Insts → Bool
  is_above_in y z above none = false
  is_above_in y z above (more t e is) = is_above y z (above || is_free_in_term y t) e || is_above_in y z above is

-- y is the variable of a strong quantifier, and is free in the term of an instance above one of z: y has to be there before z
abbrev pub is_before : Expansion → Var → Var → Bool
is_before x y z = list_any (eq_by_cmp var_cmp y) (strongs_of x) && (list_any (is_above y z false) x.left || list_any (is_above y z false) x.right)

-- one variable leads to another by steps from a variable to one that it comes before
pub data Path (x : Expansion) : Var → Var → Type 0 where
  step : (y z : Var) → is_before x y z ≡ true → Path x y z
  on : (y z w : Var) → is_before x y z ≡ true → Path x z w → Path x y w

-- no variable leads to itself
abbrev pub IsAcyclic : Expansion → Type 0
IsAcyclic x = (y : Var) → Path x y y → ⊥
