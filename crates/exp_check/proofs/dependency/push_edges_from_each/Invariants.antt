use Rattle.std.proofs.Common.{◌&&◌, take}
use Rattle.std.specs.List.{list_any}
use Rattle.std.specs.Ordering.{eq_by_cmp}
use Rattle.fol.specs.Order.{var_cmp}
use Rattle.exp_check.specs.Edges.{IsExtended}
use Rattle.exp_check.proofs.dependency.push_edges_from_each.Given as goal

abbrev pub invariant-loop-before : goal.invariant-loop-before
invariant-loop-before l =
    IsExtended l.initial.edges.items l.edges.items (λ y z. list_any (eq_by_cmp var_cmp y) (take l.before-index l.above) && eq_by_cmp var_cmp l.after z)
