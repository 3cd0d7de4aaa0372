-- The variables of the set are those that it lists.
use Rattle.std.proofs.Common.{◌&&◌, ◌||◌, ap, ◌∙◌}
use Rattle.std.specs.Ordering.{eq_by_cmp}
use Rattle.fol.specs.Order.{var_cmp}
use Rattle.exp_check.specs.Edges.{has_edge}
use Rattle.exp_check.proofs.EdgeWalk.{among_above}
use Rattle.exp_check.proofs.dependency.push_edges_from.Goals as goal

pub returns : goal.returns
returns c y z =
    c.in_ok-push_edges_from_each.ensures y z
    ∙ ap (λ b. has_edge c.args.edges.now.items y z || (b && eq_by_cmp var_cmp c.args.after.now z)) (among_above c.args.above.now c.as_slice.result.now y c.as_slice.ensures)
