-- No variable leads to itself exactly where the variables have ranks that rise along the steps.
use Rattle.std.proofs.Common.{◌≡◌, ◌↔◌, ℕ, ◌<◌, true, refl, arith}
use Rattle.std.specs.List.{list_any}
use Rattle.std.specs.Ordering.{eq_by_cmp}
use Rattle.fol.specs.declared.symbols.Var.{Var}
use Rattle.fol.specs.Order.{var_cmp}
use Rattle.fol.proofs.OrderTies.{var_equality_same}
use Rattle.lk_rules.proofs.Subsequents.{and_left}
use Rattle.substitution.proofs.ImageLaws.{same_var}
use Rattle.expansion_laws.specs.Dependency.{Expansion, strongs_of, is_before, Path, step, on, IsAcyclic}
use Rattle.expansion_laws.proofs.Chains.{rank, rank_rises}

-- a variable ties with itself
var_tied : (v : Var) → eq_by_cmp var_cmp v v ≡ true
var_tied v = (var_equality_same v v (eq_by_cmp var_cmp v v) refl).1 refl

module _ (x : Expansion) where
  -- what comes before a variable is the variable of a strong quantifier
  is_strong : (y z : Var) → is_before x y z ≡ true → list_any (eq_by_cmp var_cmp y) (strongs_of x) ≡ true
  is_strong y z e = and_left _ _ e

  -- what leads to a variable is one too
  path_strong : (y z : Var) → Path x y z → list_any (eq_by_cmp var_cmp y) (strongs_of x) ≡ true
  path_strong _ _ (step y z e) = is_strong y z e
  path_strong _ _ (on y z w e p) = is_strong y z e

  -- a path with one more step at its end
  path_further : (y z w : Var) → Path x y z → is_before x z w ≡ true → Path x y w
  path_further _ _ w (step y z e) b = on y z w e (step z w b)
  path_further _ _ w (on y z u e p) b = on y z w e (path_further z u w p b)

  -- ranks rise along a path
  path_rises : (rank : Var → ℕ) → ((y z : Var) → is_before x y z ≡ true → rank y < rank z) → (y z : Var) → Path x y z → rank y < rank z
  path_rises rank rises _ _ (step y z e) = rises y z e
  path_rises rank rises _ _ (on y z w e p) =
      let first = rises y z e in
      let others = path_rises rank rises z w p in
      omega arith

  -- no variable leads to itself exactly where there are such ranks
  pub acyclic_ranked : IsAcyclic x ↔ ((rank : Var → ℕ) × ((y z : Var) → is_before x y z ≡ true → rank y < rank z))
  acyclic_ranked = (
    λ h. (
      rank (eq_by_cmp var_cmp) same_var var_tied (is_before x) (strongs_of x) is_strong (Path x) step path_further h,
      rank_rises (eq_by_cmp var_cmp) same_var var_tied (is_before x) (strongs_of x) is_strong (Path x) step path_further h path_strong,
    ),
    λ h y p. let falls : h.0 y < h.0 y = path_rises h.0 h.1 y y p in absurd (omega arith),
  )
