-- There is no binding where their list is empty.
use Rattle.std.proofs.Common.{sym, ap, ◌∙◌}
use Rattle.std.specs.FinMap as fin
use Rattle.fol.specs.Order.{var_cmp}
use Rattle.substitution.proofs.Restricting.{empty_test}
use Rattle.substitution.proofs.maps.Subst.is_empty.Goals as goal

pub returns : goal.returns
returns c =
    empty_test c.args.self.now c.self.inside.items.items
    (sym (fin.entries-from_sorted var_cmp c.self.inside.items.items c.self.invariant) ∙ ap fin.entries c.self.view_is)
    _ c.self.inside.items.ok.0 c.is_empty.result c.is_empty.ensures
