-- The fingerprint is that of the list that shows the set.
use Rattle.std.proofs.Common.{sym, ap, ◌∙◌}
use Rattle.fol.specs.Order.{term_cmp}
use Rattle.finite.specs.Finite as set
use Rattle.finite.proofs.Finite.{listing-of_rising}
use Rattle.delta_rows.specs.ValueOrder.{terms_print}
use Rattle.delta_rows.proofs.values.Values.fingerprint.Goals as goal

pub returns : goal.returns
returns c = c.self.invariant.printed ∙ ap terms_print (sym (listing-of_rising term_cmp c.self.inside.items.items c.self.invariant.rises) ∙ ap set.listing c.self.view_is)
