-- Nothing is noted at first, and then the rows so far.
use Rattle.std.proofs.Common.{◌≡◌, [], take}
use Rattle.delta_table.specs.FoundRows.{tallies_at}
use Rattle.delta_table.proofs.tallies.tally_rows.Given as goal

abbrev pub invariant-loop-set : goal.invariant-loop-set
invariant-loop-set l = l.tallies.items ≡ tallies_at (take l._set-index l.sets) []

abbrev pub invariant-loop-row : goal.invariant-loop-row
invariant-loop-row l = l.tallies.items ≡ tallies_at l.keys (take l.row-index l.rows)
