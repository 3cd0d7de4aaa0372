-- The sides so far have their numbers.
use Rattle.std.proofs.Common.{take}
use Rattle.arena_cells.specs.Standing.{Extends}
use Rattle.fol_unify.specs.Joining.{ArePairs}
use Rattle.fol_unify.proofs.numbering.number_pairs.Given as goal

abbrev pub invariant-loop-place : goal.invariant-loop-place
invariant-loop-place l = record {
  grown : Extends l.fn.cells l.cells;
  pairs : ArePairs l.cells l.pairs.items (take l.place l.equations);
}
