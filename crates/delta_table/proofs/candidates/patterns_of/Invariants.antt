-- The patterns so far go on with those of the other rows.
use Rattle.std.proofs.Common.{◌≡◌, ◌++◌, drop}
use Rattle.delta_table.specs.Chosen.{patterns_at}
use Rattle.delta_table.proofs.candidates.patterns_of.Given as goal

abbrev pub invariant-loop-row : goal.invariant-loop-row
invariant-loop-row l = l.patterns.items ++ patterns_at l.tuples l.values (drop l.row-index l.rows) ≡ patterns_at l.tuples l.values l.rows
