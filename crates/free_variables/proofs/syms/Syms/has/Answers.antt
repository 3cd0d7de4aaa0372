-- An element that has a place in the list is in the set.
use Rattle.std.proofs.Common.{◌≡◌, is_ok, ap, ◌∙◌}
use Rattle.finite.specs.Finite as set
use Rattle.finite.specs.Place.{place}
use Rattle.fol.specs.Order.{pred_cmp}
use Rattle.fol.specs.OrderLaws.{pred_total}
use Rattle.finite.proofs.Places.{has-place}
use Rattle.free_variables.proofs.syms.Syms.has.Goals as goal

pub returns : goal.returns
returns c =
    let found : c.search.result ≡ place pred_cmp c.args.symbol.now c.self.inside.items.items = rw c.deref.ensures.value at c.search.ensures in
    c.is_ok.ensures.value ∙ ap is_ok found ∙ has-place pred_cmp pred_total c.args.symbol.now c.self.inside.items.items c.self.invariant ∙ ap (λ s. set.has s c.args.symbol.now) c.self.view_is
