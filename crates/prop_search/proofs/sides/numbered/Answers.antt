use Rattle.std.proofs.Common.{◌∙◌}
use Rattle.finite.specs.Finite as set
use Rattle.lk_rules.specs.declared.sequent.Side.TheVariants.{Left, Right}
use Rattle.prop_search.specs.Premises.{with_each}
use Rattle.prop_search.proofs.Picked.{sequent_of_none, both_sides}
use Rattle.prop_search.proofs.sides.numbered.Goals as goal

pub returns-clause-sequent : goal.returns-clause-sequent
returns-clause-sequent c =
    let none = sequent_of_none c.args.numbering.now c.in_ok-made.made c.known.ensures c.in_ok-made.ensures.empty in
    c.add_each-2.ensures.sequent
    ∙ (λ i. with_each (c.add_each.ensures.sequent i) Right (c.right.ensures.listing i))
    ∙ (λ i. with_each (with_each (none i) Left (c.left.ensures.listing i)) Right (set.listing c.args.sequent.now.right))
    ∙ both_sides c.args.sequent.now
