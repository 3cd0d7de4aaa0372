-- The distinct trees of which expansion trees are made, in post-order.
--     same_tree      whether two trees are equal
--     subtrees      all trees below a tree from left to right, each after those below it, and last the tree itself
--     distinct_trees      those of the trees for a sequent, each where it occurs first
use Rattle.std.specs.Prelude.{Bool, List, [], ◌∷◌, ◌++◌}
use Rattle.expansion_laws.specs.Expansions.{Exp as Tree, wk, leaf, neg, conj, disj, impl, weak, strong, Insts, none, more}
use Rattle.expansion_laws.specs.Dependency.{Expansion}
use Rattle.indexmap.specs.IndexSet.{insert_all}
use Rattle.number_hash.specs.Codes.{same_by}
use Rattle.exp_tree.specs.Codes.{coded_exp}

abbrev pub same_tree : Tree → Tree → Bool
same_tree = same_by coded_exp

abbrev mutual
  pub subtrees : Tree → List Tree
  subtrees (wk f) = wk f ∷ []
  subtrees (leaf f) = leaf f ∷ []
  subtrees (neg e) = subtrees e ++ neg e ∷ []
  subtrees (conj d e) = subtrees d ++ subtrees e ++ conj d e ∷ []
  subtrees (disj d e) = subtrees d ++ subtrees e ++ disj d e ∷ []
  subtrees (impl d e) = subtrees d ++ subtrees e ++ impl d e ∷ []
  subtrees (weak f is) = subtrees_in is ++ weak f is ∷ []
  subtrees (strong f y e) = subtrees e ++ strong f y e ∷ []

  pub subtrees_in : Insts → List Tree
  subtrees_in none = []
  subtrees_in (more t e is) = subtrees e ++ subtrees_in is

abbrev pub subtrees_each : List Tree → List Tree
subtrees_each [] = []
subtrees_each (e ∷ es) = subtrees e ++ subtrees_each es

-- those below a tree
abbrev pub below : Tree → List Tree
below (wk f) = []
below (leaf f) = []
below (neg e) = subtrees e
below (conj d e) = subtrees d ++ subtrees e
below (disj d e) = subtrees d ++ subtrees e
below (impl d e) = subtrees d ++ subtrees e
below (weak f is) = subtrees_in is
below (strong f y e) = subtrees e

-- the trees of a list, and then those of another that aren't among them yet
abbrev pub with_each : List Tree → List Tree → List Tree
with_each = insert_all same_tree

abbrev pub distinct_trees : Expansion → List Tree
distinct_trees x = with_each [] (subtrees_each x.left ++ subtrees_each x.right)
