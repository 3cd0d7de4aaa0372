-- The trees get smaller, and the variables of those so far are there.
use Rattle.std.proofs.Common.{◌≡◌, ◌+◌, ◌*◌, take}
use Rattle.finite.specs.Finite as set
use Rattle.proof_trees.specs.TreeLists.{nodes, nodes_all}
use Rattle.proof_graph.specs.References.{trees_of}
use Rattle.extraction_laws.specs.Extraction.{var_list_trees}
use Rattle.exp_extract.specs.Gathering.{IsGathering}
use Rattle.exp_extract.proofs.variables.+gather.Given as goal

abbrev pub decreases-gather : goal.decreases-gather
decreases-gather l = 2 * nodes l.proof.now.tree

abbrev pub decreases-gather_all : goal.decreases-gather_all
decreases-gather_all l = 2 * nodes_all (trees_of l.proofs.now) + 1

abbrev pub invariant-gather_all-loop-proof : goal.invariant-gather_all-loop-proof
invariant-gather_all-loop-proof l = record {
  vars : l.gathering.vars ≡ set.adds_each l.initial.gathering.vars (var_list_trees (trees_of (take l.proof-index l.proofs)));
  gathering : IsGathering l.graph l.gathering;
}
