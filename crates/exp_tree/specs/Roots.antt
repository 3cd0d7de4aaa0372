-- The roots of a flat list, and the fault of a root.
--     root_fault, root_fault_at      what is wrong with a root
--     IsFirstRootFault, IsWithoutRootFault      the first faulty root of a list; no root is faulty
--     side_over, expansion_over      the trees of the roots
--     nodes_each, total      how many nodes the unfolded trees have
use Rattle.std.specs.Prelude.{◌≡◌, ℕ, ◌+◌, ◌-◌, ◌<◌, nat_lt, Bool, List, [], ◌∷◌, length, map, take, slice_get, Option, Some, None, option_and_then, if◌then◌else◌}
use Rattle.std.specs.List.{list_any}
use Rattle.std.specs.Ordering.{eq_by_cmp}
use Rattle.fol.specs.Order.{formula_cmp}
use Rattle.lk_rules.specs.declared.sequent.Side.{Side}
use Rattle.lk_rules.specs.declared.sequent.Side.TheVariants.{Left, Right}
use Rattle.expansion_laws.specs.Expansions.{Exp as Tree, shallow}
use Rattle.expansion_laws.specs.Dependency.{Expansion}
use Rattle.expansion_laws.specs.Proofs.{stands}
use Rattle.exp_tree.specs.Sizes.{exp_nodes}
use Rattle.exp_tree.specs.Sorting.{sorted}
use Rattle.exp_tree.specs.FlatLists.{tree_at, trees_of}
use Rattle.exp_tree.specs.declared.flat.FlatExp.{FlatExp}
use Rattle.exp_tree.specs.declared.flat.RootCause.{RootCause}
use Rattle.exp_tree.specs.declared.flat.RootCause.TheVariants.{Reference, Polarity, Twice}

-- whether two places have trees with one formula
abbrev pub has_same_formula : List Tree → ℕ → ℕ → Bool
has_same_formula ts m n = eq_by_cmp formula_cmp (shallow (tree_at ts m)) (shallow (tree_at ts n))

-- the first fault of a root on a side, after the earlier roots of the side
abbrev pub root_fault : List Tree → Side → List ℕ → ℕ → Option RootCause
root_fault ts side earlier r =
    if nat_lt r (length ts)
    then (if stands side (tree_at ts r) then (if list_any (has_same_formula ts r) earlier then Some Twice else None) else Some Polarity)
    else Some Reference

-- the fault of the root at place k of a side
abbrev pub side_fault_at : List Tree → Side → List ℕ → ℕ → Option RootCause
side_fault_at ts side roots k = option_and_then (root_fault ts side (take k roots)) (slice_get roots k)

-- no root before place k of a side is faulty
abbrev pub IsRightSideBefore : List Tree → Side → List ℕ → ℕ → Type 0
IsRightSideBefore ts side roots k = (j : ℕ) → j < k → side_fault_at ts side roots j ≡ None

-- the fault of the root with this number, where the left roots are counted before the right ones
abbrev pub root_fault_at : FlatExp → ℕ → Option RootCause
root_fault_at flat n =
    if nat_lt n (length flat.left)
    then side_fault_at (trees_of flat.nodes) Left flat.left n
    else side_fault_at (trees_of flat.nodes) Right flat.right (n - length flat.left)

-- no root before this number is faulty
abbrev pub AreRightRootsBefore : FlatExp → ℕ → Type 0
AreRightRootsBefore flat n = (m : ℕ) → m < n → root_fault_at flat m ≡ None

-- the root with this number is the first faulty one
pub record IsFirstRootFault (flat : FlatExp) (n : ℕ) (cause : RootCause) : Type 0 where
  pub here : root_fault_at flat n ≡ Some cause
  pub before : AreRightRootsBefore flat n

-- no root is faulty
abbrev pub IsWithoutRootFault : FlatExp → Type 0
IsWithoutRootFault flat = AreRightRootsBefore flat (length flat.left + length flat.right)

-- the trees of roots by rising formula
abbrev pub side_over : List Tree → List ℕ → List Tree
side_over ts roots = sorted formula_cmp shallow (map (tree_at ts) roots)

-- the trees of the roots of both sides
abbrev pub expansion_over : FlatExp → Expansion
expansion_over flat = record { left = side_over (trees_of flat.nodes) flat.left; right = side_over (trees_of flat.nodes) flat.right }

-- how many nodes some trees have together
abbrev pub nodes_each : List Tree → ℕ
nodes_each [] = 0
nodes_each (e ∷ es) = exp_nodes e + nodes_each es

-- how many nodes the unfolded trees of the roots have
abbrev pub total : Expansion → ℕ
total x = nodes_each x.left + nodes_each x.right
