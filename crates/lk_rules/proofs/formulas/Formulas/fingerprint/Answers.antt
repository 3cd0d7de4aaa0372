-- The list of a set is the list that shows it.
use Rattle.std.proofs.Common.{sym, ap, ◌∙◌}
use Rattle.fol.specs.Order.{formula_cmp}
use Rattle.finite.specs.Finite as set
use Rattle.finite.proofs.Finite.{listing-of_rising}
use Rattle.lk_rules.specs.Items.{list_fingerprint}
use Rattle.lk_rules.proofs.formulas.Formulas.fingerprint.Goals as goal

pub returns : goal.returns
returns c = c.fingerprint.ensures ∙ ap list_fingerprint (sym (listing-of_rising formula_cmp c.self.inside.items c.self.invariant.rises) ∙ ap set.listing c.self.view_is)
