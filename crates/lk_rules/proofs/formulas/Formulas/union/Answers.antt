-- The merge of the lists of two sets is the list of their union.
use Rattle.std.proofs.Common.{true, ap, ◌∙◌}
use Rattle.std.specs.Set.{sorted_merge}
use Rattle.fol.specs.Order.{formula_cmp}
use Rattle.fol.specs.OrderLaws.{formula_total}
use Rattle.fol.proofs.OrderTies.{formula_ties}
use Rattle.finite.specs.Finite as set
use Rattle.free_variables.specs.Union.{union_of}
use Rattle.free_variables.proofs.RisingLists.{shown_by_merge}
use Rattle.lk_rules.proofs.Listings.{listing_of_merge}
use Rattle.lk_rules.proofs.formulas.Formulas.union.Goals as goal

pub invariant_of-result : goal.invariant_of-result
invariant_of-result c =
    rw (c.in_ok-items-2.ensures, c.in_ok-items.ensures, c.as_slice.ensures, c.as_slice-2.ensures)
    (listing_of_merge c.self.inside.items c.other.inside.items c.self.invariant c.other.invariant)

pub returns : goal.returns
returns c =
    ap set.of_rising (c.in_ok-items-2.ensures ∙ c.in_ok-items.ensures ∙ λ i. sorted_merge formula_cmp true (c.as_slice.ensures i) (c.as_slice-2.ensures i))
    ∙ shown_by_merge formula_total formula_ties c.self.inside.items c.other.inside.items c.self.invariant.rises c.other.invariant.rises
    ∙ λ i. union_of (c.self.view_is i) (c.other.view_is i)
