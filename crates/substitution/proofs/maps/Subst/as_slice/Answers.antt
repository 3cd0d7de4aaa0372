-- The bindings of a map are those that show it.
use Rattle.std.proofs.Common.{sym, ap, ◌∙◌}
use Rattle.std.specs.FinMap as fin
use Rattle.fol.specs.Order.{var_cmp}
use Rattle.substitution.proofs.maps.Subst.as_slice.Goals as goal

pub returns : goal.returns
returns c = c.as_slice.ensures.value ∙ sym (fin.entries-from_sorted var_cmp c.self.inside.items.items c.self.invariant) ∙ ap fin.entries c.self.view_is
