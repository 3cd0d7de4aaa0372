-- The nodes of the table are those of its trees.
use Rattle.std.proofs.Common.{rules, ◌≡◌, ap, ◌∙◌}
use Rattle.exp_tree.specs.Writing.{nodes_of}
use Rattle.exp_tree.proofs.TableTrees.{nodes_are}
use Rattle.exp_tree.proofs.table.Table.into_nodes.Goals as goal

pub returns-clause-nodes : goal.returns-clause-nodes
returns-clause-nodes c =
    let same : c.from_vec.result ≡ c.self.inside.nodes.keys = search rules in
    same ∙ nodes_are c.self.inside.nodes.keys c.self.invariant ∙ ap nodes_of c.self.view_is
