-- The trees get smaller.
use Rattle.std.proofs.Common.{◌+◌, ◌*◌}
use Rattle.proof_trees.specs.TreeLists.{nodes}
use Rattle.exp_extract.proofs.walking.+walk.Given as goal

abbrev pub decreases-visit : goal.decreases-visit
decreases-visit l = 3 * nodes l.proof.now.tree + 1

abbrev pub decreases-visit_new : goal.decreases-visit_new
decreases-visit_new l = 3 * nodes l.proof.now.tree

abbrev pub decreases-visit_premise : goal.decreases-visit_premise
decreases-visit_premise l = 3 * nodes l.premise.now.tree + 2
