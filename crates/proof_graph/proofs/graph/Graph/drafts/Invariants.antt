-- The first drafts are made, and the other inferences are left.
use Rattle.std.proofs.Common.{◌≡◌, ◌++◌, map}
use Rattle.std.specs.List.{All}
use Rattle.std.specs.Vec.Iter.{into_iter_items}
use Rattle.proof_graph.specs.Drafts.{AreDrafts, keys_in, trees_in}
use Rattle.proof_graph.specs.Inferences.{IsInferenceOf, tree_by, key_by}
use Rattle.proof_graph.proofs.graph.Graph.drafts.Given as goal

abbrev pub invariant-loop-inference : goal.invariant-loop-inference
invariant-loop-inference l = record {
  next : goal.iterator-loop-inference.can_next l.inference-iterator;
  finite : goal.iterator-loop-inference.is_finite l.inference-iterator;
  inferences : All (IsInferenceOf l.self) (into_iter_items l.inference-iterator);
  drafts : AreDrafts l.self.nodes l.drafts.items;
  keys : keys_in l.drafts.items ++ map key_by (into_iter_items l.inference-iterator) ≡ map key_by l.fn.inferences.items;
  trees : trees_in l.drafts.items ++ map tree_by (into_iter_items l.inference-iterator) ≡ map tree_by l.fn.inferences.items;
}
