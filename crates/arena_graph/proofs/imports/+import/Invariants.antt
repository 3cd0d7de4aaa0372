-- The trees get smaller.
use Rattle.std.proofs.Common.{◌+◌, ◌*◌}
use Rattle.proof_trees.specs.TreeLists.{nodes, nodes_all}
use Rattle.proof_graph.specs.References.{trees_of}
use Rattle.arena_graph.proofs.imports.+import.Given as goal

abbrev pub decreases-import_premise : goal.decreases-import_premise
decreases-import_premise l = 3 * nodes l.premise.now.tree + 1

abbrev pub decreases-import_new : goal.decreases-import_new
decreases-import_new l = 3 * nodes l.proof.now.tree

abbrev pub decreases-import_below : goal.decreases-import_below
decreases-import_below l = 3 * nodes_all (trees_of l.premises.now) + 2
