use Rattle.std.proofs.Common.{take, IfSome}
use Rattle.arena_cells.specs.Standing.{IsFormulaAt}
use Rattle.arena_building.specs.Leaves.{IsLeastAt}
use Rattle.arena_building.proofs.leaves.least.Given as goal

abbrev pub invariant-loop-number : goal.invariant-loop-number
invariant-loop-number l = record {
  there : IfSome l.least (IsFormulaAt l.arena);
  least : IsLeastAt l.arena (take l.number-index l.numbers) l.least;
}
