-- What a reference keeps: a token of the graph's vector, whose stamp has the tree, and the references of the premises.
use Rattle.std.specs.Prelude.{◌≡◌, ◌+◌, ◌≤◌, List, [], ◌∷◌}
use Rattle.std.specs.List.{All}
use Rattle.std.proofs.Common.{arith, ap}
use Rattle.boxcar.specs.Table.{Where, Shows}
use denote.Param.Weighed.{most}
use Rattle.proof_trees.specs.Trees.{Tree, node, below, IsValid}
use Rattle.proof_graph.specs.declared.reference.RefLink.{RefLink}
use Rattle.proof_graph.specs.declared.tree.Stamp.{Stamp}
use Rattle.proof_trees.specs.TreeLists.{nodes, nodes_all}
use Rattle.proof_graph.specs.References.{Reference, key_of, trees_of, numbers_of}
use Rattle.proof_graph.specs.Counts.{AreCountsOf}

abbrev pub reference_of : Where Stamp → RefLink → Reference
reference_of t l = record { home = l.home.value; number = t.index; premises = t.value.key.premises; tree = t.value.tree.tree }

-- the token is of the graph's vector, and its stamp has a tree, with the node as its root; the references of the premises are of the
-- same graph, with the numbers and the trees that the node and the tree say; the tree is valid, and the counts are its own
pub record IsKept (t : Where Stamp) (l : RefLink) : Type 0 where
  pub shown : Shows l.home.value t
  pub root : t.value.key ≡ key_of (reference_of t l)
  pub home : All (λ p. p.home ≡ l.home.value) l.premises.items
  pub numbers : numbers_of l.premises.items ≡ t.value.key.premises
  pub trees : trees_of l.premises.items ≡ below t.value.tree.tree
  pub valid : IsValid t.value.tree.tree
  pub counts : AreCountsOf l.counts t.value.tree.tree

pub most_le-trees : (rs : List Reference) → most (λ (r : Reference). nodes r.tree + 1) rs ≤ nodes_all (trees_of rs) + 1
most_le-trees [] = omega arith
most_le-trees (r ∷ rs) = omega (arith, most_le-trees rs)

nodes_below : (t : Tree) → nodes t ≡ nodes_all (below t) + 1
nodes_below (node r s ts) = omega arith

-- the premises have fewer nodes
pub falls : (t : Where Stamp) (l : RefLink) → IsKept t l → most (λ (r : Reference). nodes r.tree + 1) l.premises.items ≤ nodes t.value.tree.tree
falls t l h =
    let same : nodes_all (trees_of l.premises.items) ≡ nodes_all (below t.value.tree.tree) = ap nodes_all h.trees in
    omega (arith, most_le-trees l.premises.items, nodes_below t.value.tree.tree)
