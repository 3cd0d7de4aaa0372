-- Expansion trees for the formulas of a sequent.
use Rattle.std.specs.Prelude.{◌≡◌, true, List, map}
use Rattle.std.specs.List.{list_all}
use Rattle.finite.specs.Finite.{IsRising}
use Rattle.fol.specs.Order.{formula_cmp}
use Rattle.expansion_laws.specs.Expansions.{Exp as Tree, shallow}
use Rattle.expansion_laws.specs.Building.{is_built}
use Rattle.expansion_laws.specs.Formed.{is_formed_exp}

-- the trees are rightly built of what is well formed, and their formulas rise, so no two have the same
pub record AreArranged (trees : List Tree) : Type 0 where
  pub rises : IsRising formula_cmp (map shallow trees)
  pub built : list_all is_built trees ≡ true
  pub formed : list_all is_formed_exp trees ≡ true
