-- The test of equality of trees.
use Rattle.std.proofs.Common.{◌≡◌, true, refl}
use Rattle.proof_trees.specs.Trees.{Tree}
use Rattle.number_hash.specs.Codes.{same_by_decides}
use Rattle.proof_trees.specs.Codes.{coded_tree}
use Rattle.step_laws.specs.Subtrees.{same_tree}

-- trees that the test takes for equal are equal
pub equal_of : (t u : Tree) → same_tree t u ≡ true → t ≡ u
equal_of t u h = (same_by_decides coded_tree t u).0 h

-- a tree is equal to itself
pub same_itself : (t : Tree) → same_tree t t ≡ true
same_itself t = (same_by_decides coded_tree t t).1 refl
