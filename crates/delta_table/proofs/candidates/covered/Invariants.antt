-- The places of the rows so far.
use Rattle.std.proofs.Common.{◌≡◌, take}
use Rattle.delta_table.specs.FoundRows.{tally_at}
use Rattle.delta_table.proofs.candidates.covered.Given as goal

abbrev pub invariant-loop-row : goal.invariant-loop-row
invariant-loop-row l = l.places ≡ (tally_at l.values (take l.row-index l.rows)).places
