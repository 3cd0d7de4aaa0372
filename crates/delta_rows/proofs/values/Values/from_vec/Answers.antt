-- A rising list with the elements of a list shows the set of that list.
use Rattle.fol.specs.OrderLaws.{term_total}
use Rattle.fol.proofs.OrderTies.{term_ties}
use Rattle.free_variables.proofs.RisingLists.{shown_by_list}
use Rattle.delta_rows.proofs.values.Values.from_vec.Goals as goal

pub returns : goal.returns
returns c = shown_by_list term_total term_ties c.sort_distinct.new.items.items c.args.items.items c.sort_distinct.ensures.rises c.sort_distinct.ensures.same
