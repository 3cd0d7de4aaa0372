-- References before their nodes are put into the graph.
use Rattle.std.specs.Prelude.{◌≡◌, List, map}
use Rattle.std.specs.List.{All}
use Rattle.boxcar.specs.Table.{Shelves}
use Rattle.proof_trees.specs.Trees.{Tree, node, IsValid}
use Rattle.proof_graph.specs.declared.node.Node.{Node}
use Rattle.proof_graph.specs.declared.reference.Draft.{Draft}
use Rattle.proof_graph.specs.References.{trees_of, numbers_of}
use Rattle.proof_graph.specs.Counts.{AreCountsOf}

-- the tree of a draft
abbrev pub drafted : Draft → Tree
drafted d = d.stamp.tree.tree

-- a stamp with the key and a tree, which is valid, with the key's rule and end sequent over the premises' trees; and the graph, the
-- references of the premises, of this graph and with the numbers that the key says, and the counts of the tree
pub record IsDraftOf (nodes : Shelves) (root : Node) (d : Draft) : Type 0 where
  pub key : d.stamp.key ≡ root
  pub tree : d.stamp.tree.tree ≡ node root.rule root.end (trees_of d.link.value.premises.items)
  pub graph : d.link.value.home.value ≡ nodes
  pub home : All (λ p. p.home ≡ nodes) d.link.value.premises.items
  pub numbers : root.premises ≡ numbers_of d.link.value.premises.items
  pub valid : IsValid d.stamp.tree.tree
  pub counts : AreCountsOf d.link.value.counts d.stamp.tree.tree

-- drafts with their keys
abbrev pub AreDrafts : Shelves → List (Node × Draft) → Type 0
AreDrafts nodes ds = All (λ d. IsDraftOf nodes d.0 d.1) ds

abbrev pub keys_in : List (Node × Draft) → List Node
keys_in ds = map (λ d. d.0) ds

abbrev pub trees_in : List (Node × Draft) → List Tree
trees_in ds = map (λ d. drafted d.1) ds
