-- Expansion trees that are written as a list of nodes, each of which names its children by their places, and the fault of a node.
--     tree_over, trees_of      the tree of a node over the trees of earlier ones, and the trees of a list of nodes
--     node_fault, fault_at      what is wrong with a node
--     IsFirstNodeFault, IsWithoutNodeFault      the first faulty node of a list; no node is faulty
use Rattle.std.specs.Prelude.{◌≡◌, ℕ, ◌<◌, nat_lt, Bool, true, ◌&&◌, ◌||◌, List, [], ◌∷◌, ◌++◌, length, map, take, slice_get, Option, Some, None, option_and_then, if◌then◌else◌}
use Rattle.std.proofs.Common.{get_or}
use Rattle.std.specs.List.{list_all}
use Rattle.fol.specs.Syntax.{Term, top}
use Rattle.fol.specs.Order.{term_cmp}
use Rattle.fol.specs.Formed.{is_formed, is_formed_term, is_formed_var}
use Rattle.lk_rules.specs.declared.sequent.Side.TheVariants.{Left, Right}
use Rattle.expansion_laws.specs.Expansions.{Exp as Tree, wk, leaf, neg, conj, disj, impl, weak, strong}
use Rattle.expansion_laws.specs.Building.{is_flat, is_quantified, is_built}
use Rattle.expansion_laws.specs.Proofs.{stands}
use Rattle.exp_tree.specs.Sorting.{sorted}
use Rattle.exp_tree.specs.Shown.{insts_of}
use Rattle.exp_tree.specs.declared.expansion.Inst.{Inst}
use Rattle.exp_tree.specs.declared.flat.ExpNode.{ExpNode}
use Rattle.exp_tree.specs.declared.flat.ExpNode.TheVariants.{Wk, Leaf, Not, And, Or, Imp, Weak, Strong}
use Rattle.exp_tree.specs.declared.flat.NodeCause.{NodeCause}
use Rattle.exp_tree.specs.declared.flat.NodeCause.TheVariants.{Reference, Shape, Instance, Polarity}

-- the places that a node names as those of its children
abbrev pub children : ExpNode → List ℕ
children (Wk f) = []
children (Leaf f) = []
children (Not m) = m ∷ []
children (And m n) = m ∷ n ∷ []
children (Or m n) = m ∷ n ∷ []
children (Imp m n) = m ∷ n ∷ []
children (Weak f is) = map (λ i. i.1) is
children (Strong f y m) = m ∷ []

-- whether the formulas, terms and variables that a node names are well formed
abbrev pub is_formed_node : ExpNode → Bool
is_formed_node (Wk f) = is_formed f
is_formed_node (Leaf f) = is_formed f
is_formed_node (Not m) = true
is_formed_node (And m n) = true
is_formed_node (Or m n) = true
is_formed_node (Imp m n) = true
is_formed_node (Weak f is) = is_formed f && list_all (λ i. is_formed_term i.0) is
is_formed_node (Strong f y m) = is_formed f && is_formed_var y

-- the tree at a place, and a formula that is never used where there is none
abbrev pub tree_at : List Tree → ℕ → Tree
tree_at ts n = get_or ts n (wk top)

-- an instance by a term, with the tree at a place
abbrev pub inst_at : List Tree → Term × ℕ → Inst
inst_at ts i = record { term = i.0; child = tree_at ts i.1 }

-- the tree of a node over the trees of the earlier nodes. The instances at a weak quantifier are put into rising order of their terms
abbrev pub tree_over : List Tree → ExpNode → Tree
tree_over ts (Wk f) = wk f
tree_over ts (Leaf f) = leaf f
tree_over ts (Not m) = neg (tree_at ts m)
tree_over ts (And m n) = conj (tree_at ts m) (tree_at ts n)
tree_over ts (Or m n) = disj (tree_at ts m) (tree_at ts n)
tree_over ts (Imp m n) = impl (tree_at ts m) (tree_at ts n)
tree_over ts (Weak f is) = weak f (insts_of (sorted term_cmp (λ i. i.term) (map (inst_at ts) is)))
tree_over ts (Strong f y m) = strong f y (tree_at ts m)

-- the trees of earlier nodes, and those of the nodes after them
abbrev pub trees_after : List Tree → List ExpNode → List Tree
trees_after earlier [] = earlier
trees_after earlier (node ∷ later) = trees_after (earlier ++ tree_over earlier node ∷ []) later

-- the tree of each node
abbrev pub trees_of : List ExpNode → List Tree
trees_of nodes = trees_after [] nodes

-- a leaf is an atom, truth or falsity, and a quantifier's formula begins with a quantifier
abbrev pub has_shape : ExpNode → Bool
has_shape (Wk f) = true
has_shape (Leaf f) = is_flat f
has_shape (Not m) = true
has_shape (And m n) = true
has_shape (Or m n) = true
has_shape (Imp m n) = true
has_shape (Weak f is) = is_quantified f
has_shape (Strong f y m) = is_quantified f

-- the fault of a tree whose node has its shape: it isn't rightly built, which is that a child hasn't the instance for its formula or that
-- a term is given twice; or it can stand on neither side
abbrev pub tree_fault : Tree → Option NodeCause
tree_fault e = if is_built e then (if stands Left e || stands Right e then None else Some Polarity) else Some Instance

-- the first fault of a node over the trees of the earlier nodes
abbrev pub node_fault : List Tree → ExpNode → Option NodeCause
node_fault ts node =
    if list_all (λ n. nat_lt n (length ts)) (children node)
    then (if has_shape node then tree_fault (tree_over ts node) else Some Shape)
    else Some Reference

-- the fault of the node at place i
abbrev pub fault_at : List ExpNode → ℕ → Option NodeCause
fault_at nodes i = option_and_then (node_fault (take i (trees_of nodes))) (slice_get nodes i)

-- no node before place i is faulty
abbrev pub IsRightBefore : List ExpNode → ℕ → Type 0
IsRightBefore nodes i = (j : ℕ) → j < i → fault_at nodes j ≡ None

-- the node at place i is the first faulty one
pub record IsFirstNodeFault (nodes : List ExpNode) (i : ℕ) (cause : NodeCause) : Type 0 where
  pub here : fault_at nodes i ≡ Some cause
  pub before : IsRightBefore nodes i

-- no node is faulty
abbrev pub IsWithoutNodeFault : List ExpNode → Type 0
IsWithoutNodeFault nodes = IsRightBefore nodes (length nodes)
