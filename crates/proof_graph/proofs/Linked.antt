-- A tree over valid ones.
use Rattle.std.proofs.Common.{◌≡◌, List, [], ◌∷◌, sym, subst}
use Rattle.std.specs.List.{All}
use Rattle.std.proofs.lemmas.List.Elements.{All-head, All-tail}
use Rattle.proof_trees.specs.Trees.{Tree, node, IsValid, AllValid, IsInference}
use Rattle.proof_graph.specs.declared.node.Node.{Node}
use Rattle.proof_graph.specs.References.{Reference, trees_of}

all_valid : (rs : List Reference) → All (λ r. IsValid r.tree) rs → AllValid (trees_of rs)
all_valid [] h = tt
all_valid (r ∷ rs) h = (All-head (λ (s : Reference). IsValid s.tree) r rs h, all_valid rs (All-tail (λ (s : Reference). IsValid s.tree) r rs h))

-- a tree over valid ones is valid, where its last inference is right
pub valid_over : (t : Tree) (key : Node) (rs : List Reference) → t ≡ node key.rule key.end (trees_of rs) → All (λ r. IsValid r.tree) rs
    → IsInference key.rule key.end (trees_of rs) → IsValid t
valid_over t key rs root valid right = subst IsValid (sym root) (right, all_valid rs valid)
