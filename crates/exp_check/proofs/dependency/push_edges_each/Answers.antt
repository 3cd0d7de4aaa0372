-- One more tree.
use Rattle.std.proofs.Common.{ap, ◌∙◌}
use Rattle.finite.specs.Finite as set
use Rattle.finite.proofs.Finite.{has-empty}
use Rattle.fol.specs.Order.{var_cmp}
use Rattle.exp_check.proofs.EdgeWalk.{next_tree}
use Rattle.exp_check.proofs.dependency.push_edges_each.Goals as goal

pub loop-tree-preserved : goal.loop-tree-preserved
loop-tree-preserved c y z =
    next_tree y z c.args.trees.now c.loop-tree.tree-index c.tree-item.result _ _ _ c.new-above.result c.loop-tree-test.true c.tree-item.is
    (ap (λ s. set.has s y) c.new-above.ensures ∙ has-empty var_cmp y) (c.loop-tree.invariant y z) (c.in_ok-push_edges.ensures y z)
