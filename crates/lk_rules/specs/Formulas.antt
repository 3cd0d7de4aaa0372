-- Sets of formulas: what every stored one keeps, and the test that two are equal.
use Rattle.std.specs.Prelude.{◌≡◌, Bool, true, List, [], ◌∷◌, ◌++◌, map, Option}
use Rattle.std.specs.Cmp.{IsEquivalence}
use Rattle.std.specs.Cmp.Lexicographic.{pointwise}
use Rattle.std.specs.List.{list_all}
use Rattle.std.specs.Ordering.{eq_by_cmp}
use Rattle.std.proofs.lemmas.Cmp.{eq_by_cmp_equiv, lists_equiv, on_equiv}
use Rattle.fol.specs.declared.symbols.Var.{Var}
use Rattle.fol.specs.Syntax.{Term, Formula}
use Rattle.fol.specs.Order.{formula_cmp}
use Rattle.fol.specs.OrderLaws.{formula_total}
use Rattle.fol.specs.Formed.{is_formed}
use Rattle.finite.specs.Finite as set
use Rattle.free_variables.specs.Occurrence.{var_list}
use Rattle.substitution.specs.Image.{image}

-- finite sets of formulas
abbrev pub FormulaSet : Type 0
FormulaSet = set.Finite formula_cmp

-- the list of a set of well-formed formulas: it rises without repeats, and each formula is well formed
pub record IsListing (items : List Formula) : Type 0 where
  pub rises : set.IsRising formula_cmp items
  pub formed : list_all is_formed items ≡ true

-- whether two sets have the same formulas, one list beside the other
abbrev pub same_formulas : FormulaSet → FormulaSet → Bool
same_formulas s t = pointwise (eq_by_cmp formula_cmp) (set.listing s) (set.listing t)

pub same_formulas_equiv : IsEquivalence same_formulas
same_formulas_equiv = on_equiv set.listing (lists_equiv (eq_by_cmp_equiv formula_total))

-- the images of a set's formulas under a map from variables to terms. Formulas that fall together become one
abbrev pub image_set : (Var → Option Term) → FormulaSet → FormulaSet
image_set m s = set.of_list (map (image m) (set.listing s))

-- the free variables of the formulas of a list, one for each occurrence
abbrev pub var_lists : List Formula → List Var
var_lists [] = []
var_lists (f ∷ fs) = var_list f ++ var_lists fs
