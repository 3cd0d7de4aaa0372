-- The variables of the bindings are those of the map.
use Rattle.std.proofs.Common.{◌≡◌, ap, sym, ◌∙◌, arith}
use Rattle.std.proofs.lemmas.Grind.{common_steps}
use Rattle.std.specs.FinMap as fin
use Rattle.fol.specs.Order.{var_cmp}
use Rattle.finite.specs.Finite as set
use Rattle.substitution.proofs.Places.{keys}
use Rattle.substitution.proofs.MapLaws.{domain_members}
use Rattle.substitution.proofs.maps.Subst.vars.Goals as goal

pub returns-clause-value : goal.returns-clause-value
returns-clause-value c =
    let listed : c.loop-var.list.items ≡ keys c.self.inside.items.items = grind (arith, common_steps) in
    c.from_vec.ensures ∙ ap set.of_list (listed ∙ (ap keys (sym (fin.entries-from_sorted var_cmp c.self.inside.items.items c.self.invariant)) ∙ ap fin.keys c.self.view_is))

pub returns-clause-members : goal.returns-clause-members
returns-clause-members c v = ap (λ s. set.has s v) (returns-clause-value c) ∙ domain_members c.args.self.now v
