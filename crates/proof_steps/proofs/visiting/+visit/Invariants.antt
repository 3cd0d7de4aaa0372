-- The trees get smaller, and those so far are listed.
use Rattle.std.proofs.Common.{◌≡◌, ◌+◌, ◌*◌, take}
use Rattle.proof_trees.specs.TreeLists.{nodes, nodes_all}
use Rattle.proof_graph.specs.References.{trees_of}
use Rattle.step_laws.specs.Subtrees.{subtrees_all, appended_each}
use Rattle.proof_steps.specs.Listed.{ArePlaces}
use Rattle.proof_steps.proofs.visiting.+visit.Given as goal

abbrev pub decreases-visit : goal.decreases-visit
decreases-visit l = 2 * nodes l.proof.now.tree

abbrev pub decreases-visit_all : goal.decreases-visit_all
decreases-visit_all l = 2 * nodes_all (trees_of l.proofs.now) + 1

abbrev pub invariant-visit_all-loop-proof : goal.invariant-visit_all-loop-proof
invariant-visit_all-loop-proof l = record {
  home : l.listing.home ≡ l.graph.nodes;
  trees : l.listing.trees ≡ appended_each l.initial.listing.trees (subtrees_all (trees_of (take l.proof-index l.proofs)));
  places : ArePlaces l.listing.trees l.places.items (trees_of (take l.proof-index l.proofs));
}
