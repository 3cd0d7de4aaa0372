-- A rising list with the elements of a list is that of its set.
use Rattle.std.proofs.Common.{sym, ap, ◌∙◌}
use Rattle.fol.specs.Order.{terms_cmp}
use Rattle.fol.specs.OrderLaws.{terms_total}
use Rattle.fol.proofs.OrderTies.{terms_ties}
use Rattle.finite.specs.Finite as set
use Rattle.finite.proofs.Finite.{listing-of_rising}
use Rattle.free_variables.proofs.RisingLists.{shown_by_list}
use Rattle.delta_table.proofs.tuples.Tuples.from_vec.Goals as goal

pub returns : goal.returns
returns c =
    sym (listing-of_rising terms_cmp c.sort_distinct.new.items.items c.sort_distinct.ensures.rises)
    ∙ ap set.listing (shown_by_list terms_total terms_ties c.sort_distinct.new.items.items c.args.items.items c.sort_distinct.ensures.rises c.sort_distinct.ensures.same)
