-- A formula that has a place in the list is in the set.
use Rattle.std.proofs.Common.{◌≡◌, is_ok, ap, ◌∙◌}
use Rattle.finite.specs.Finite as set
use Rattle.finite.specs.Place.{place}
use Rattle.fol.specs.Order.{formula_cmp}
use Rattle.fol.specs.OrderLaws.{formula_total}
use Rattle.finite.proofs.Places.{has-place}
use Rattle.lk_rules.proofs.formulas.Formulas.has.Goals as goal

pub returns : goal.returns
returns c =
    let found : c.search.result ≡ place formula_cmp c.args.f.now c.self.inside.items = rw c.as_slice.ensures at c.search.ensures in
    c.is_ok.ensures.value ∙ ap is_ok found ∙ has-place formula_cmp formula_total c.args.f.now c.self.inside.items c.self.invariant.rises ∙ ap (λ s. set.has s c.args.f.now) c.self.view_is
