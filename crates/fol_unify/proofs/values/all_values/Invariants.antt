-- The values of the classes of the numbers so far are made, and no class is open.
use Rattle.std.proofs.Common.{ℕ}
use Rattle.arena_cells.specs.Standing.{Extends}
use Rattle.fol_unify.specs.Values.{IsOpen, AreValued, AreDone}
use Rattle.fol_unify.proofs.values.all_values.Given as goal

abbrev pub invariant-loop-number : goal.invariant-loop-number
invariant-loop-number l = record {
  grown : Extends l.fn.cells l.cells;
  valued : AreValued l.cells l.equations l.roots l.marks.items;
  closed : (r : ℕ) → ¬ IsOpen l.marks.items r;
  done : AreDone l.cells l.roots l.marks.items l.number;
}
