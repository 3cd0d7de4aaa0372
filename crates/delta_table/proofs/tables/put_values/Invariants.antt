-- The sets of the rows so far are put.
use Rattle.std.proofs.Common.{◌≡◌, ℕ, Bool, ◌||◌, List, take}
use Rattle.std.specs.List.{list_any}
use Rattle.delta_table.specs.FoundRows.{numbers_in}
use Rattle.delta_table.proofs.tables.put_values.Given as goal

abbrev pub invariant-loop-row : goal.invariant-loop-row
invariant-loop-row l = (p : List ℕ → Bool) → list_any p l.keys ≡ (list_any p l.initial.keys || list_any p (numbers_in (take l.row-index l.rows)))
