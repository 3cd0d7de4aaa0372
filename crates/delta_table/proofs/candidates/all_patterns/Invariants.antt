-- The patterns so far go on with those of the other items.
use Rattle.std.proofs.Common.{◌≡◌, ◌++◌, drop}
use Rattle.delta_table.specs.Chosen.{zipped, patterns_by_numbers}
use Rattle.delta_table.proofs.candidates.all_patterns.Given as goal

abbrev pub invariant-loop-at : goal.invariant-loop-at
invariant-loop-at l = l.patterns.items ++ zipped (patterns_by_numbers l.values) (drop l.at l.items) (drop l.at l.tables) ≡ zipped (patterns_by_numbers l.values) l.items l.tables
