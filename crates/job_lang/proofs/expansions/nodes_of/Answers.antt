use Rattle.std.proofs.Common.{◌≡◌, true, ◌+◌, List, sym, subst}
use Rattle.std.specs.List.{All}
use Rattle.std.proofs.lemmas.List.Sums.{list_all-from_AllPass}
use Rattle.std.proofs.lemmas.List.Elements.{All-push}
use Rattle.exp_tree.specs.declared.flat.ExpNode.{ExpNode}
use Rattle.exp_tree.specs.FlatLists.{is_formed_node}
use Rattle.line_values.specs.View.{view}
use Rattle.job_lang.specs.Expansions.{node_at}
use Rattle.job_lang.proofs.Each.{Reads, reads_more}
use Rattle.job_lang.proofs.expansions.nodes_of.Goals as goal

pub loop-index-preserved : goal.loop-index-preserved
loop-index-preserved c =
    let i = c.loop-index.index in
    subst (λ (items : List ExpNode). Reads view node_at c.args.values.now (i + 1) items × All (λ n. is_formed_node n ≡ true) items) (sym c.in_ok-push.ensures.items) (
      reads_more view node_at c.args.values.now i c.index-values-index.result c.loop-index.items.items c.in_ok-node.node
          c.loop-index-test.true c.index-values-index.is c.in_ok-node.ensures.value c.loop-index.invariant.0,
      All-push (λ (n : ExpNode). is_formed_node n ≡ true) c.loop-index.items.items c.in_ok-node.node c.loop-index.invariant.1 c.in_ok-node.ensures.formed,
    )

pub from_vec-requires : goal.from_vec-requires
from_vec-requires c = list_all-from_AllPass is_formed_node c.loop-index.items.items c.loop-index.invariant.1
