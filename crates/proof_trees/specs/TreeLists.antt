-- The trees of a list, and how many nodes a tree has.
use Rattle.std.specs.Prelude.{ℕ, zero, suc, List, [], ◌∷◌, Option, Some, None, true}
use Rattle.proof_trees.specs.Trees.{Tree, Trees, none, more, size, count_rules_all}

-- the trees of a list, as those below a node
abbrev pub trees : List Tree → Trees
trees [] = none
trees (t ∷ ts) = more t (trees ts)

-- the tree at a place of those below a node, counted from 0
abbrev pub tree_at : Trees → ℕ → Option Tree
tree_at none i = None
tree_at (more t ts) zero = Some t
tree_at (more t ts) (suc i) = tree_at ts i

-- how many nodes a tree has, and how many trees have together
abbrev pub nodes : Tree → ℕ
nodes = size

abbrev pub nodes_all : Trees → ℕ
nodes_all = count_rules_all (λ r. true)
