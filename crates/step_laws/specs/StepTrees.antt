-- The trees that the steps of a list stand for.
use Rattle.std.specs.Prelude.{◌≡◌, ◌-◌, List, [], ◌∷◌, ◌++◌, length, slice_get, Some}
use Rattle.std.specs.List.{filter_map}
use Rattle.lk_rules.specs.declared.rule.Step.{Step}
use Rattle.proof_trees.specs.Trees.{Tree, node}
use Rattle.proof_trees.specs.TreeLists.{trees}

-- the tree of a step: its inference, over the trees of the earlier steps that it names as premises
abbrev pub tree_over : List Tree → Step → Tree
tree_over earlier step = node step.rule step.end (trees (filter_map (slice_get earlier) step.premises))

-- the trees of earlier steps, and those of the steps after them
abbrev pub trees_after : List Tree → List Step → List Tree
trees_after earlier [] = earlier
trees_after earlier (step ∷ later) = trees_after (earlier ++ tree_over earlier step ∷ []) later

-- the tree of each step
abbrev pub trees_of_steps : List Step → List Tree
trees_of_steps steps = trees_after [] steps

-- the last step stands for the tree t
abbrev pub IsTreeOf : List Step → Tree → Type 0
IsTreeOf steps t = slice_get (trees_of_steps steps) (length steps - 1) ≡ Some t
