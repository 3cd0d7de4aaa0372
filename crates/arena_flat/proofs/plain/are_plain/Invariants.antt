-- No symbol in the formulas that are passed has a body.
use Rattle.std.proofs.Common.{◌≡◌, false, map, take}
use Rattle.std.specs.List.{list_any}
use Rattle.fol.specs.Facts.{has_body}
use Rattle.arena_cells.specs.Standing.{formula_at}
use Rattle.arena_flat.proofs.plain.are_plain.Given as goal

abbrev pub invariant-loop-formula : goal.invariant-loop-formula
invariant-loop-formula l = list_any has_body (map (formula_at l.arena) (take l.formula-index l.formulas)) ≡ false
