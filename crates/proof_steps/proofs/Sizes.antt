-- Each premise is smaller than all together.
use Rattle.std.proofs.Common.{◌≡◌, ℕ, zero, suc, ◌+◌, ◌*◌, ◌<◌, ◌≤◌, List, [], ◌∷◌, length, get_or, ap, arith}
use Rattle.proof_trees.specs.TreeLists.{nodes, nodes_all}
use Rattle.proof_graph.specs.References.{Reference, trees_of}

nodes_at : (rs : List Reference) (i : ℕ) (d : Reference) → i < length rs → nodes (get_or rs i d).tree ≤ nodes_all (trees_of rs)
nodes_at [] i d h = absurd (omega arith)
nodes_at (r ∷ rs) zero d h = omega arith
nodes_at (r ∷ rs) (suc i) d h = let rest = nodes_at rs i d (omega arith) in omega arith

pub premise_smaller : (rs : List Reference) (i : ℕ) (r : Reference) → i < length rs → r ≡ get_or rs i r → 2 * nodes r.tree < 2 * nodes_all (trees_of rs) + 1
premise_smaller rs i r within is = omega (arith, nodes_at rs i r within, ap (λ (s : Reference). nodes s.tree) is)
