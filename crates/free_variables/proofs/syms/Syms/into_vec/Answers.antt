-- The list of a set is the list that shows it.
use Rattle.std.proofs.Common.{sym, ap, ◌∙◌}
use Rattle.fol.specs.Order.{pred_cmp}
use Rattle.finite.specs.Finite as set
use Rattle.finite.proofs.Finite.{listing-of_rising}
use Rattle.free_variables.proofs.syms.Syms.into_vec.Goals as goal

pub returns : goal.returns
returns c = sym (listing-of_rising pred_cmp c.self.inside.items.items c.self.invariant) ∙ ap set.listing c.self.view_is
