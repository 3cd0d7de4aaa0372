-- A look-up answers by the place.
use Rattle.std.proofs.Common.{◌≡◌, Some, Ok, Err, sym, ap, ◌∙◌}
use Rattle.std.specs.FinMap as fin
use Rattle.fol.specs.declared.symbols.Var.{Var}
use Rattle.fol.specs.Syntax.{Term, bound}
use Rattle.fol.specs.Order.{var_cmp}
use Rattle.fol.specs.OrderLaws.{var_total}
use Rattle.finite.specs.Place.{place}
use Rattle.substitution.proofs.Places.{keys, get_found}
use Rattle.substitution.proofs.maps.Subst.get.Goals as goal

pub returns-in-Ok : goal.returns-in-Ok
returns-in-Ok c =
    let at : Ok c.in-Ok.at ≡ place var_cmp c.args.var.now (keys c.self.inside.items.items) = rw c.deref.ensures.value at c.in-Ok.ensures.place in
    ap (λ (b : Var × Term). Some b.1) c.index.ensures
    ∙ (sym (get_found var_cmp var_total c.args.var.now c.self.inside.items.items c.index.result.now c.self.invariant (Ok c.in-Ok.at) at)
    ∙ ap (λ m. fin.get m c.args.var.now) c.self.view_is)

pub returns-in-Err : goal.returns-in-Err
returns-in-Err c =
    let at : Err c.in-Err.field-0 ≡ place var_cmp c.args.var.now (keys c.self.inside.items.items) = rw c.deref.ensures.value at c.in-Err.ensures.place in
    sym (get_found var_cmp var_total c.args.var.now c.self.inside.items.items (c.args.var.now, bound 0) c.self.invariant (Err c.in-Err.field-0) at)
    ∙ ap (λ m. fin.get m c.args.var.now) c.self.view_is
