-- Inferences over proofs of a graph.
use Rattle.std.specs.List.{All}
use Rattle.proof_trees.specs.Trees.{Tree, node, IsInference}
use Rattle.proof_graph.specs.declared.graph.Graph.{Graph}
use Rattle.proof_graph.specs.declared.inference.Inference.{Inference}
use Rattle.proof_graph.specs.declared.node.Node.{Node}
use Rattle.proof_graph.specs.References.{trees_of, key_over}
use Rattle.proof_graph.specs.Graphs.{IsOf}

-- the tree whose last inference it is
abbrev pub tree_by : Inference → Tree
tree_by i = node i.rule i.end (trees_of i.premises.items)

-- its key
abbrev pub key_by : Inference → Node
key_by i = key_over i.rule i.end i.premises.items

-- the premises are of the graph, and the inference over their trees is right
pub record IsInferenceOf (g : Graph) (i : Inference) : Type 0 where
  pub premises : All (IsOf g) i.premises.items
  pub right : IsInference i.rule i.end (trees_of i.premises.items)
