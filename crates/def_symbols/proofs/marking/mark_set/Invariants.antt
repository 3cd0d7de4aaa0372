-- the marked formulas so far are those of the formulas so far, and well formed
use Rattle.std.proofs.Common.{◌≡◌, map, take}
use Rattle.std.specs.List.{All}
use Rattle.fol.specs.Formed.{IsFormed}
use Rattle.def_laws.specs.Marking.{marked}
use Rattle.def_symbols.proofs.marking.mark_set.Given as goal

abbrev pub invariant-loop-formula : goal.invariant-loop-formula
invariant-loop-formula l = record {
  so_far : l.list.items ≡ map (marked l.definitions) (take l.formula-index l.formula-items);
  formed : All IsFormed l.list.items;
}
