-- The merge of the lists of two sets is the list of their union.
use Rattle.std.proofs.Common.{true, ap, ◌∙◌}
use Rattle.std.specs.Set.{sorted_merge}
use Rattle.fol.specs.Order.{pred_cmp}
use Rattle.fol.specs.OrderLaws.{pred_total}
use Rattle.fol.proofs.OrderTies.{pred_ties}
use Rattle.finite.specs.Finite as set
use Rattle.free_variables.specs.Union.{union_of}
use Rattle.free_variables.proofs.RisingLists.{merge_rises, shown_by_merge}
use Rattle.free_variables.proofs.syms.Syms.union.Goals as goal

pub invariant_of-result : goal.invariant_of-result
invariant_of-result c =
    rw (c.in_ok-items.ensures, c.deref.ensures.value, c.deref-2.ensures.value)
    (merge_rises pred_total pred_ties c.self.inside.items.items c.other.inside.items.items c.self.invariant c.other.invariant)

pub returns : goal.returns
returns c =
    ap set.of_rising (c.in_ok-items.ensures ∙ λ i. sorted_merge pred_cmp true (c.deref.ensures.value i) (c.deref-2.ensures.value i))
    ∙ shown_by_merge pred_total pred_ties c.self.inside.items.items c.other.inside.items.items c.self.invariant c.other.invariant
    ∙ λ i. union_of (c.self.view_is i) (c.other.view_is i)
