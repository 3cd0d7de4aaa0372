-- Unequal costs decide.
use Rattle.std.proofs.Common.{ℕ, [], map, get_or, ap, ◌∙◌}
use Rattle.std.specs.Ordering.{nat_cmp, ordering_then}
use Rattle.finite.specs.Finite as set
use Rattle.herbrand_laws.specs.Patterns.{TermSet}
use Rattle.numbered_terms.specs.Numbered.{set_at}
use Rattle.delta_rows.specs.ValueOrder.{smaller_cmp}
use Rattle.delta_table.proofs.CostSteps.{then_unequal, cost_read}
use Rattle.delta_table.proofs.costs.compare.Goals as goal

pub returns-in_default : goal.returns-in_default
returns-in_default c =
    let sets = map (set_at c.args.cells.now) c.args.keys.now in
    let smaller = smaller_cmp (get_or sets c.args.at set.empty) (get_or sets c.args.other set.empty) in
    λ (f : TermSet → ℕ) e.
    then_unequal c.cmp.result smaller c.in_default.not-Equal
    ∙ ap (λ o. ordering_then o smaller)
    (c.cmp.ensures
    ∙ λ i. nat_cmp
    (cost_read f (set_at c.args.cells.now) c.args.keys.now c.args.costs.now c.args.at [] set.empty e c.requires.at i)
    (cost_read f (set_at c.args.cells.now) c.args.keys.now c.args.costs.now c.args.other [] set.empty e c.requires.other i))
