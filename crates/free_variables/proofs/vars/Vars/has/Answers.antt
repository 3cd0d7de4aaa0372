-- An element that has a place in the list is in the set.
use Rattle.std.proofs.Common.{◌≡◌, is_ok, ap, ◌∙◌}
use Rattle.finite.specs.Finite as set
use Rattle.finite.specs.Place.{place}
use Rattle.fol.specs.Order.{var_cmp}
use Rattle.fol.specs.OrderLaws.{var_total}
use Rattle.finite.proofs.Places.{has-place}
use Rattle.free_variables.proofs.vars.Vars.has.Goals as goal

pub returns : goal.returns
returns c =
    let found : c.search.result ≡ place var_cmp c.args.var.now c.self.inside.items.items = rw c.deref.ensures.value at c.search.ensures in
    c.is_ok.ensures.value ∙ ap is_ok found ∙ has-place var_cmp var_total c.args.var.now c.self.inside.items.items c.self.invariant ∙ ap (λ s. set.has s c.args.var.now) c.self.view_is
