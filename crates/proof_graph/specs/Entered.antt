-- What a turn makes of drafts.
use Rattle.std.specs.Prelude.{◌≡◌, List, map, Option, Some, None, IfSome}
use Rattle.std.specs.List.{All}
use Rattle.boxcar.specs.Table.{Shelves}
use Rattle.proof_trees.specs.Trees.{Tree}
use Rattle.proof_graph.specs.declared.index.Entered.{Entered}
use Rattle.proof_graph.specs.declared.node.Node.{Node}
use Rattle.proof_graph.specs.declared.reference.Draft.{Draft}
use Rattle.proof_graph.specs.References.{Reference, key_of}
use Rattle.proof_graph.specs.Drafts.{IsDraftOf, drafted}

-- the tree of a draft that is left over, and else the one given
abbrev pub tree_or : Tree → Option (Node × Draft) → Tree
tree_or t None = t
tree_or t (Some left) = drafted left.1

-- the tree of the draft, which is that of the reference where the node was put in
abbrev pub tree_entered : Entered → Tree
tree_entered e = tree_or e.made.tree e.left

-- the key of a draft that is left over, and else the one given
abbrev pub key_or : Node → Option (Node × Draft) → Node
key_or n None = n
key_or n (Some left) = left.0

-- the key of the draft, which is that of the reference where the node was put in
abbrev pub key_entered : Entered → Node
key_entered e = key_or (key_of e.made) e.left

-- the reference is of the graph, and what is left over is a draft with its key, which may be another than that of the reference
pub record IsCandidate (nodes : Shelves) (e : Entered) : Type 0 where
  pub home : e.made.home ≡ nodes
  pub left : IfSome e.left (λ left. IsDraftOf nodes left.0 left.1)

abbrev pub AreCandidates : Shelves → List Entered → Type 0
AreCandidates nodes es = All (IsCandidate nodes) es

-- a key that is left over is that of the reference
abbrev pub IsRight : Entered → Type 0
IsRight e = IfSome e.left (λ left. key_of e.made ≡ left.0)

-- the reference is of the graph, and a draft that is left over is one of the same key
pub record IsEntered (nodes : Shelves) (e : Entered) : Type 0 where
  pub home : e.made.home ≡ nodes
  pub left : IfSome e.left (λ left. IsDraftOf nodes (key_of e.made) left.1)

-- the references
abbrev pub made_in : List Entered → List Reference
made_in es = map (λ e. e.made) es
