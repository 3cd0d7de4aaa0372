-- Each row is noted where its values stand.
use Rattle.std.proofs.Common.{◌≡◌, ◌+◌, ◌<◌, ◌≤◌, ◌^◌, length, take, sym, ap, subst, ◌∙◌, arith, length-take}
use Rattle.std.specs.Prelude.{position}
use Rattle.std.specs.List.{All}
use Rattle.std.proofs.lemmas.List.{take_at}
use Rattle.std.proofs.lemmas.List.Elements.{All-weaker}
use Rattle.delta_table.specs.declared.tallies.Tally.{Tally}
use Rattle.numbered_terms.specs.NumberSets.{same_numbers}
use Rattle.delta_table.specs.FoundRows.{tallies_at, noted_at}
use Rattle.delta_table.proofs.TallySteps.{tallies_more, tallies_within}
use Rattle.delta_table.proofs.tallies.tally_rows.Goals as goal

pub note-requires-clause-room : goal.note-requires-clause-room
note-requires-clause-room c =
    let k = c.loop-row.row-index in
    let rows = take k c.args.rows.now in
    let some : length rows ≤ k = let counted = length-take k c.args.rows.now in omega arith in
    let within : (t : Tally) → t.rows ≤ k → t.rows + 1 < 2 ^ 64 = λ t h. omega arith in
    subst (All (λ (t : Tally). t.rows + 1 < 2 ^ 64)) (sym (c.as_mut_slice.ensures.value ∙ c.loop-row.invariant))
    (All-weaker (λ (t : Tally). t.rows ≤ k) (λ (t : Tally). t.rows + 1 < 2 ^ 64) within (tallies_at c.args.keys.now rows) (tallies_within c.args.keys.now rows k some))

pub loop-row-preserved : goal.loop-row-preserved
loop-row-preserved c =
    let row = c.row-item.result in
    let keys = c.args.keys.now in
    let as_many : length c.note.new.tallies ≡ c.loop-row.tallies.len = omega (arith, c.note.auto.tallies, ap length c.as_mut_slice.ensures.value, c.loop-row.tallies.ok.0) in
    take_at c.note.new.tallies _ c.loop-row.tallies.len as_many
    ∙ (c.note.ensures
    ∙ (ap (noted_at row (position (same_numbers row.values) keys)) (c.as_mut_slice.ensures.value ∙ c.loop-row.invariant)
    ∙ tallies_more keys c.args.rows.now c.loop-row.row-index c.row-item.result c.as_slice-sets.ensures.distinct (omega arith) c.row-item.is))
