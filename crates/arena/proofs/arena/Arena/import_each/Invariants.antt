-- The formulas so far stand at their numbers.
use Rattle.std.proofs.Common.{◌≡◌, map, take}
use Rattle.std.specs.List.{All}
use Rattle.arena_cells.specs.Standing.{Extends, formula_at, IsFormulaAt}
use Rattle.arena.proofs.arena.Arena.import_each.Given as goal

abbrev pub invariant-loop-formula : goal.invariant-loop-formula
invariant-loop-formula l = record {
  grown : Extends l.fn.self l.self;
  there : All (IsFormulaAt l.self) l.numbers.items;
  formulas : map (formula_at l.self) l.numbers.items ≡ take l.formula-index l.formulas;
}
