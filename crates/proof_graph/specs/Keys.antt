-- Nodes as keys of a table.
--     same_node      whether two nodes are equal
--     node_fingerprint      a number in which unequal nodes mostly differ
use Rattle.std.specs.Prelude.{ℕ, Bool, fold}
use Rattle.std.specs.Coded.{Coded}
use Rattle.fol.specs.Mixing.{mixed}
use Rattle.lk_rules.specs.Fingerprints.{rule_fingerprint, sequent_fingerprint}
use Rattle.number_hash.specs.Codes.{same_by}
use Rattle.proof_graph.specs.declared.node.Node.{Node}
use Rattle.proof_graph.specs.contracts.node.Node as row

abbrev pub coded_node : Coded Node
coded_node = row.the_row.coded

abbrev pub same_node : Node → Node → Bool
same_node = same_by coded_node

-- by the rule, the end sequent and the numbers of the premises
unfoldable pub node_fingerprint : Node → ℕ
node_fingerprint n = fold mixed (mixed (rule_fingerprint n.rule) (sequent_fingerprint n.end)) n.premises
