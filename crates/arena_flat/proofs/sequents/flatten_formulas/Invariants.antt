-- The formulas so far are unfolded.
use Rattle.std.proofs.Common.{◌≡◌, map, take}
use Rattle.std.specs.List.{All}
use Rattle.arena_cells.specs.Standing.{Extends, formula_at, IsFormulaAt}
use Rattle.def_laws.specs.Flat.{flat}
use Rattle.arena_flat.specs.Flattened.{AreFlat}
use Rattle.arena_flat.proofs.sequents.flatten_formulas.Given as goal

abbrev pub invariant-loop-formula : goal.invariant-loop-formula
invariant-loop-formula l = record {
  grown : Extends l.fn.to l.to;
  there : All (IsFormulaAt l.to) l.list.items;
  formulas : map (formula_at l.to) l.list.items ≡ map (λ n. flat (formula_at l.from n)) (take l.formula-index l.formulas);
  flattened : AreFlat l.from l.to l.flattened;
}
