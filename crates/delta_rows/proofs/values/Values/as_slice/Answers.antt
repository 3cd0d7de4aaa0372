-- The list of a set is the list that shows it.
use Rattle.std.proofs.Common.{sym, ap, ◌∙◌}
use Rattle.fol.specs.Order.{term_cmp}
use Rattle.finite.specs.Finite as set
use Rattle.finite.proofs.Finite.{listing-of_rising}
use Rattle.delta_rows.proofs.values.Values.as_slice.Goals as goal

pub returns : goal.returns
returns c = c.as_slice.ensures.value ∙ sym (listing-of_rising term_cmp c.self.inside.items.items c.self.invariant.rises) ∙ ap set.listing c.self.view_is
