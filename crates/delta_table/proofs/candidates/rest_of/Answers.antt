-- The item with the rest of its tuples is an item.
use Rattle.std.proofs.Common.{◌≡◌, sym, subst, ◌∙◌}
use Rattle.fol.specs.Order.{terms_cmp}
use Rattle.finite.specs.Finite as set
use Rattle.herbrand_laws.specs.Herbrand.{Item}
use Rattle.delta_table.specs.Items.{IsItem}
use Rattle.delta_table.specs.FoundRows.{tally_at}
use Rattle.delta_table.specs.Chosen.{rest_at}
use Rattle.delta_table.proofs.Rests.{rest_is_item}
use Rattle.delta_table.proofs.candidates.rest_of.Goals as goal

pub from_rising-requires : goal.from_rising-requires
from_rising-requires c =
    subst (set.IsRising terms_cmp) (sym c.in_ok-tuples.ensures) (rest_is_item c.args.item.now (tally_at c.args.values.now c.args.rows.now).places c.known.ensures).rises

pub new-requires : goal.new-requires
new-requires c =
    let i = c.args.item.now in
    let same : ◌≡◌ {A = Item} (rest_at c.args.values.now i c.args.rows.now) (record { side = c.side.result; formula = c.in_ok-formula.formula; tuples = c.from_rising.result }) =
    λ k. record { side = sym c.side.ensures k; formula = sym (c.in_ok-formula.ensures ∙ c.formula.ensures.formula) k; tuples = sym (c.from_rising.ensures ∙ c.in_ok-tuples.ensures) k } in
    subst IsItem same (rest_is_item i (tally_at c.args.values.now c.args.rows.now).places c.known.ensures)
