-- Cycles of a relation among the members of a list: each member of a cycle comes before the next one, and the last before the first.
--     leads      one member leads to another by so many in between
--     fewest, way      by how few, and by which: the first of the list at each step
--     cycle_from, first_cycle      a shortest cycle from a member on; that from the first member that lies on one
--     is_chain, is_cycle      whether each member of a list comes before the next one; whether a list is a cycle
--     variables, cycle      the variables of the strong quantifiers of trees, and the cycle among them that is shown
use Rattle.std.specs.Prelude.{ℕ, zero, suc, Bool, true, false, ◌&&◌, List, [], ◌∷◌, length, Option, is_some}
use Rattle.std.specs.List.{list_any, find, range_with_len}
use Rattle.std.specs.Option.{option_map, option_map_or, option_and_then}
use Rattle.fol.specs.declared.symbols.Var.{Var}
use Rattle.fol.specs.Order.{var_cmp}
use Rattle.finite.specs.Finite as set
use Rattle.expansion_laws.specs.Dependency.{Expansion, strongs_of, is_before}

module _ {V : Type 0} (before : V → V → Bool) where
  -- whether each member comes before the next one, and the last before z
  abbrev pub is_chain : List V → V → Bool
  is_chain [] z = true
  is_chain (v ∷ []) z = before v z
  is_chain (v ∷ w ∷ ws) z = before v w && is_chain (w ∷ ws) z

  abbrev pub is_cycle : List V → Bool
  is_cycle [] = false
  is_cycle (v ∷ vs) = is_chain (v ∷ vs) v

module _ {V : Type 0} (before : V → V → Bool) (all : List V) where
  -- whether y leads to z by n members in between: y comes before the first of them, each before the next, and the last before z
  abbrev pub leads : ℕ → V → V → Bool
  leads zero y z = before y z
  leads (suc n) y z = list_any (λ w. before y w && leads n w z) all

  -- the least number of members by which y leads to z. Fewer than there are suffice, if any do
  abbrev pub fewest : V → V → Option ℕ
  fewest y z = find (λ n. leads n y z) (range_with_len 0 (length all))

  -- n members by which y leads to z, each of them the first in the list that leads on
  abbrev pub way : ℕ → V → V → List V
  way zero y z = []
  way (suc n) y z = option_map_or (λ w. w ∷ way n w z) (find (λ w. before y w && leads n w z) all) []

  -- a shortest cycle that begins at v
  abbrev pub cycle_from : V → Option (List V)
  cycle_from v = option_map (λ n. v ∷ way n v v) (fewest v v)

  -- that from the first member that lies on a cycle
  abbrev pub first_cycle : Option (List V)
  first_cycle = option_and_then cycle_from (find (λ v. is_some (fewest v v)) all)

-- the variables of the strong quantifiers, in rising order
abbrev pub variables : Expansion → List Var
variables x = set.listing (set.adds_each (set.empty {R = var_cmp}) (strongs_of x))

-- The cycle of variables that is shown, each of which has to be there before the next. It begins at the least variable that lies on a
-- cycle. Each next variable is one from which the first is reached in fewest steps, the least of these.
unfoldable pub cycle : Expansion → Option (List Var)
cycle x = first_cycle (is_before x) (variables x)
