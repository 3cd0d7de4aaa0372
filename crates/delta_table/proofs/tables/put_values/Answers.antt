-- The set of the next row is put.
use Rattle.std.proofs.Common.{ap, ◌∙◌, arith}
use Rattle.indexmap.specs.IndexSet.{insert_key}
use Rattle.numbered_terms.specs.NumberSets.{same_numbers}
use Rattle.delta_table.proofs.NumberRows.{any_more_rows}
use Rattle.delta_table.proofs.tables.put_values.Goals as goal

pub loop-row-preserved : goal.loop-row-preserved
loop-row-preserved c =
    let row = c.row-item.result in
    λ p. any_more_rows p c.args.keys.now c.loop-row.keys c.put.new.self c.args.rows.now c.loop-row.row-index row (omega arith) c.row-item.is (c.loop-row.invariant p)
    (c.in_ok-put.ensures ∙ ap (insert_key same_numbers c.loop-row.keys) c.copy.ensures)
