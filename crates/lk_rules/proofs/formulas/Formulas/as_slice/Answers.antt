-- The list of a set is the list that shows it.
use Rattle.std.proofs.Common.{sym, ap, ◌∙◌}
use Rattle.fol.specs.Order.{formula_cmp}
use Rattle.finite.specs.Finite as set
use Rattle.finite.proofs.Finite.{listing-of_rising}
use Rattle.lk_rules.proofs.formulas.Formulas.as_slice.Goals as goal

pub returns-clause-listing : goal.returns-clause-listing
returns-clause-listing c = c.as_slice.ensures ∙ sym (listing-of_rising formula_cmp c.self.inside.items c.self.invariant.rises) ∙ ap set.listing c.self.view_is
