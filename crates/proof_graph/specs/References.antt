-- What contracts see of a reference to a proof: the graph that it is of, its number there, the numbers of its premises, and the tree
-- that it means.
use Rattle.std.specs.Prelude.{ℕ, List, map}
use Rattle.std.specs.Coded.{Coded}
use base.Stored.{coded×, coded_ℕ, coded_list, coded_via}
use Rattle.boxcar.specs.Table.{Shelves, shelves_coded}
use Rattle.lk_rules.specs.declared.rule.Rule.{Rule}
use Rattle.lk_rules.specs.declared.sequent.Sequent.{Sequent}
use Rattle.proof_trees.specs.Trees.{Tree, Trees, rule_of, concl}
use Rattle.proof_graph.specs.declared.node.Node.{Node}
use Rattle.proof_trees.specs.Codes.{coded_tree}
use Rattle.proof_trees.specs.TreeLists.{trees}

-- a graph is known by the vector that keeps its nodes
pub record Reference : Type 0 where
  pub home : Shelves
  pub number : ℕ
  pub premises : List ℕ
  pub tree : Tree

abbrev pub coded_reference : Coded Reference
coded_reference =
    coded_via (coded× shelves_coded (coded× coded_ℕ (coded× (coded_list coded_ℕ) coded_tree))) (λ (r : Reference). (r.home, (r.number, (r.premises, r.tree))))
    (λ x y e i. record { home = (e i).0; number = (e i).1.0; premises = (e i).1.1.0; tree = (e i).1.1.1 })

-- the key of a reference: the root of its tree, with the numbers of the premises
abbrev pub key_of : Reference → Node
key_of r = record { rule = rule_of r.tree; end = concl r.tree; premises = r.premises }

-- the trees that references mean, as those below a node
abbrev pub trees_of : List Reference → Trees
trees_of rs = trees (map (λ r. r.tree) rs)

abbrev pub numbers_of : List Reference → List ℕ
numbers_of rs = map (λ r. r.number) rs

-- the key of an inference over the trees that references mean
abbrev pub key_over : Rule → Sequent → List Reference → Node
key_over rule end premises = record { rule = rule; end = end; premises = numbers_of premises }
