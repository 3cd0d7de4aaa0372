-- A rising list with the formulas of a list shows the set of that list.
use Rattle.std.proofs.Common.{rules}
use Rattle.fol.specs.OrderLaws.{formula_total}
use Rattle.fol.proofs.OrderTies.{formula_ties}
use Rattle.free_variables.proofs.RisingLists.{shown_by_list}
use Rattle.lk_rules.proofs.Listings.{listing_of_list}
use Rattle.lk_rules.proofs.formulas.Formulas.from_vec.Goals as goal

pub invariant_of-result : goal.invariant_of-result
invariant_of-result c = rw c.in_ok-items.ensures (search (rules, listing_of_list))

pub returns : goal.returns
returns c = rw c.in_ok-items.ensures (search (rules, shown_by_list formula_total formula_ties))
