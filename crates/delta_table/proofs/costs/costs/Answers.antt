-- Each item adds its shares.
use Rattle.std.proofs.Common.{ℕ, ◌+◌, ◌∙◌, arith}
use Rattle.delta_table.specs.declared.tallies.Tally.{Tally}
use Rattle.delta_table.specs.FoundRows.{tallies_at}
use Rattle.delta_table.specs.Chosen.{zipped, share}
use Rattle.delta_table.proofs.CostSteps.{costs_more}
use Rattle.delta_table.proofs.costs.costs.Goals as goal

pub loop-at-preserved : goal.loop-at-preserved
loop-at-preserved c =
    let keys = c.args.keys.now in
    let item = c.index-items-at.result in
    c.in_ok-add.ensures
    ∙ ((λ n. zipped (λ (x : ℕ) (t : Tally). x + share item t) (c.loop-at.invariant n) (tallies_at keys (c.as_slice-in-loop-at.ensures n)))
    ∙ costs_more keys c.args.items.now c.args.tables.now c.loop-at.at item c.index-tables-at.result c.requires.as_many (omega arith) c.index-items-at.is c.index-tables-at.is)
