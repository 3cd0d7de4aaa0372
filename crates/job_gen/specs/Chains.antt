-- A chain of k implications, from p(a) to p of the k-th f of a, as the expansion proof of an `expansion` job. Places of nodes count from 0.
use Rattle.std.specs.Prelude.{ℕ, ◌+◌, ◌*◌, List, [], ◌∷◌, ◌++◌, map, codes}
use Rattle.std.specs.List.{range_with_len, flat_map}
use Rattle.serde_json.specs.Data.{Data, string, object, member, no_members}
use Rattle.job_gen.specs.Values.{list_data, count_data, numbers_data, iterate_text, atom_text}

-- the leaf with the atom p of the k-th f of a
abbrev pub leaf_data : ℕ → Data
leaf_data k = object (member (codes "formula") (string (atom_text k)) (member (codes "kind") (string (codes "leaf")) no_members))

-- the implication from the node at one place to that at another
abbrev pub imp_data : ℕ → ℕ → Data
imp_data from to = object (member (codes "kind") (string (codes "imp")) (member (codes "of") (numbers_data (from ∷ to ∷ [])) no_members))

-- the i-th implication: p of the i-th f of a implies p of the next one; its three nodes stand from place 3i on
abbrev pub implication_nodes : ℕ → List Data
implication_nodes i = leaf_data i ∷ leaf_data (i + 1) ∷ imp_data (3 * i) (3 * i + 1) ∷ []

-- the i-th implication as an instance, by the i-th f of a
abbrev pub instance_data : ℕ → Data
instance_data i = object (member (codes "of") (count_data (3 * i + 2)) (member (codes "term") (string (iterate_text i)) no_members))

-- the weak node: p(X) implies p(f(X)) for all X, with the k implications as its instances
abbrev pub weak_data : ℕ → Data
weak_data k = object (member (codes "formula") (string (codes "![X]: (p(X) => p(f(X)))"))
    (member (codes "instances") (list_data (map instance_data (range_with_len 0 k))) (member (codes "kind") (string (codes "weak")) no_members)))

-- the nodes: those of the k implications, the weak node at place 3k, and the leaves where the chain begins and ends
abbrev pub chain_nodes : ℕ → List Data
chain_nodes k = flat_map implication_nodes (range_with_len 0 k) ++ (weak_data k ∷ leaf_data 0 ∷ leaf_data k ∷ [])

-- the roots: where the chain begins and the weak node on the left, where it ends on the right
abbrev pub left_roots : ℕ → List ℕ
left_roots k = (3 * k + 1) ∷ (3 * k) ∷ []

abbrev pub right_roots : ℕ → List ℕ
right_roots k = (3 * k + 2) ∷ []
