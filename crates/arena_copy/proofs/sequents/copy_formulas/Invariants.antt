-- The formulas so far have copies.
use Rattle.std.proofs.Common.{◌≡◌, map, take}
use Rattle.std.specs.List.{All}
use Rattle.arena_cells.specs.Standing.{Extends, formula_at, IsFormulaAt}
use Rattle.arena_copy.specs.Copied.{AreCopied}
use Rattle.arena_copy.proofs.sequents.copy_formulas.Given as goal

abbrev pub invariant-loop-formula : goal.invariant-loop-formula
invariant-loop-formula l = record {
  grown : Extends l.fn.to l.to;
  there : All (IsFormulaAt l.to) l.copies.items;
  formulas : map (formula_at l.to) l.copies.items ≡ map (formula_at l.from) (take l.formula-index l.formulas);
  copied : AreCopied l.from l.to l.copied;
}
