-- The distinct subtrees of a tree in post-order.
use Rattle.std.specs.Prelude.{Bool, if◌then◌else◌, List, [], ◌∷◌, ◌++◌}
use Rattle.std.specs.List.{list_any}
use Rattle.proof_trees.specs.Trees.{Tree, node, Trees, none, more}
use Rattle.number_hash.specs.Codes.{same_by}
use Rattle.proof_trees.specs.Codes.{coded_tree}

-- whether two trees are equal
abbrev pub same_tree : Tree → Tree → Bool
same_tree = same_by coded_tree

-- all subtrees: those of the premises from left to right, and then the tree
abbrev mutual
  pub subtrees : Tree → List Tree
  subtrees (node r s ts) = subtrees_all ts ++ node r s ts ∷ []

  pub subtrees_all : Trees → List Tree
  subtrees_all none = []
  subtrees_all (more t ts) = subtrees t ++ subtrees_all ts

-- a list with one more tree at its end, unless the tree stands in it
abbrev pub appended : List Tree → Tree → List Tree
appended xs t = if list_any (same_tree t) xs then xs else xs ++ t ∷ []

-- a list with each tree of another
abbrev pub appended_each : List Tree → List Tree → List Tree
appended_each xs [] = xs
appended_each xs (t ∷ ts) = appended_each (appended xs t) ts

-- the distinct subtrees, each where it occurs first
abbrev pub distinct_subtrees : Tree → List Tree
distinct_subtrees t = appended_each [] (subtrees t)
