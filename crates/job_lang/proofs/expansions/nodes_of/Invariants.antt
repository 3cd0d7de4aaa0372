use Rattle.std.proofs.Common.{◌≡◌, true}
use Rattle.std.specs.List.{All}
use Rattle.exp_tree.specs.FlatLists.{is_formed_node}
use Rattle.line_values.specs.View.{view}
use Rattle.job_lang.specs.Expansions.{node_at}
use Rattle.job_lang.proofs.Each.{Reads}
use Rattle.job_lang.proofs.expansions.nodes_of.Given as goal

abbrev pub invariant-loop-index : goal.invariant-loop-index
invariant-loop-index l = Reads view node_at l.values l.index l.items.items × All (λ n. is_formed_node n ≡ true) l.items.items
