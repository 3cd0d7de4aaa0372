-- The bindings with a new one at its place show the map with it.
use Rattle.std.proofs.Common.{◌≡◌, Ok, Err, ap, ◌∙◌}
use Rattle.std.specs.FinMap as fin
use Rattle.fol.specs.Order.{var_cmp}
use Rattle.fol.specs.OrderLaws.{var_total}
use Rattle.fol.proofs.OrderTies.{var_ties}
use Rattle.finite.specs.Place.{place}
use Rattle.substitution.proofs.Places.{keys, placed_sorted, placed_map}
use Rattle.substitution.proofs.maps.Subst.set.Goals as goal

pub invariant_of-self : goal.invariant_of-self
invariant_of-self c =
    let at : Ok c.in-Ok.at ≡ place var_cmp c.args.var (keys c.self.inside.items.items) = rw c.deref.ensures.value at c.in-Ok.ensures.place in
    placed_sorted var_cmp var_total var_ties c.args.var c.args.term c.self.inside.items.items c.self.invariant (Ok c.in-Ok.at) at

pub returns-in-Ok-clause-ok : goal.returns-in-Ok-clause-ok
returns-in-Ok-clause-ok c =
    let at : Ok c.in-Ok.at ≡ place var_cmp c.args.var (keys c.self.inside.items.items) = rw c.deref.ensures.value at c.in-Ok.ensures.place in
    placed_map var_cmp var_total var_ties c.args.var c.args.term c.self.inside.items.items c.self.invariant (Ok c.in-Ok.at) at
    ∙ ap (λ m. fin.insert m c.args.var c.args.term) c.self.view_is

pub invariant_of-self-in-Err : goal.invariant_of-self-in-Err
invariant_of-self-in-Err c =
    let at : Err c.in-Err.at ≡ place var_cmp c.args.var (keys c.self.inside.items.items) = rw c.deref.ensures.value at c.in-Err.ensures.place in
    rw c.in_ok-insert-in-Err.ensures.items (placed_sorted var_cmp var_total var_ties c.args.var c.args.term c.self.inside.items.items c.self.invariant (Err c.in-Err.at) at)

pub returns-in_ok-insert-in-Err-clause-ok : goal.returns-in_ok-insert-in-Err-clause-ok
returns-in_ok-insert-in-Err-clause-ok c =
    let at : Err c.in-Err.at ≡ place var_cmp c.args.var (keys c.self.inside.items.items) = rw c.deref.ensures.value at c.in-Err.ensures.place in
    ap fin.from_sorted c.in_ok-insert-in-Err.ensures.items
    ∙ (placed_map var_cmp var_total var_ties c.args.var c.args.term c.self.inside.items.items c.self.invariant (Err c.in-Err.at) at
    ∙ ap (λ m. fin.insert m c.args.var c.args.term) c.self.view_is)
