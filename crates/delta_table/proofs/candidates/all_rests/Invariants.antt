-- The rests so far go on with those of the other items.
use Rattle.std.proofs.Common.{◌≡◌, ◌++◌, drop}
use Rattle.delta_table.specs.Chosen.{zipped, rest_at}
use Rattle.delta_table.proofs.candidates.all_rests.Given as goal

abbrev pub invariant-loop-at : goal.invariant-loop-at
invariant-loop-at l = l.rests.items ++ zipped (rest_at l.values) (drop l.at l.items) (drop l.at l.tables) ≡ zipped (rest_at l.values) l.items l.tables
