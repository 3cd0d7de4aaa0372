-- The tuples so far have their numbers.
use Rattle.std.proofs.Common.{take}
use Rattle.arena_cells.specs.Standing.{Extends, IsSymbolAt}
use Rattle.numbered_terms.specs.Numbered.{AreTuples}
use Rattle.numbered_terms.proofs.numbering.number_tuples.Given as goal

abbrev pub invariant-loop-tuple : goal.invariant-loop-tuple
invariant-loop-tuple l = record {
  grown : Extends l.fn.cells l.cells;
  symbol : IsSymbolAt l.cells l.symbol;
  tuples : AreTuples l.cells l.numbers.items (take l.tuple-index l.tuples);
}
