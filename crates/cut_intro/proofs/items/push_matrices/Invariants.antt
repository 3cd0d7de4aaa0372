use Rattle.std.proofs.Common.{◌≡◌, ◌++◌, map, take}
use Rattle.std.specs.List.{All}
use Rattle.fol.specs.Formed.{IsFormed}
use Rattle.herbrand_laws.specs.Herbrand.{matrix_instance}
use Rattle.cut_intro.proofs.items.push_matrices.Given as goal

abbrev pub invariant-loop-tuple : goal.invariant-loop-tuple
invariant-loop-tuple l = record {
  so_far : l.list.items ≡ l.initial.list.items ++ map (λ us. matrix_instance us l.formula) (take l.tuple-index l.tuples);
  formed : All IsFormed l.list.items;
}
