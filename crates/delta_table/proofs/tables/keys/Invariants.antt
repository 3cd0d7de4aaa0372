-- The sets of the tables so far are put.
use Rattle.std.proofs.Common.{◌≡◌, ℕ, Bool, List, take}
use Rattle.std.specs.List.{list_any}
use Rattle.delta_table.specs.FoundRows.{all_numbers}
use Rattle.delta_table.proofs.tables.keys.Given as goal

abbrev pub invariant-loop-rows : goal.invariant-loop-rows
invariant-loop-rows l = (p : List ℕ → Bool) → list_any p l.keys ≡ list_any p (all_numbers (take l.rows-index l.tables))
