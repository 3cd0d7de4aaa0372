use Rattle.std.proofs.Common.{◌≡◌, take}
use Rattle.std.specs.List.{All}
use Rattle.fol.specs.Formed.{IsFormed}
use Rattle.herbrand_laws.specs.Herbrand.{matrix_instances}
use Rattle.cut_intro.proofs.items.matrices_on.Given as goal

abbrev pub invariant-loop-item : goal.invariant-loop-item
invariant-loop-item l = record {
  so_far : l.list.items ≡ matrix_instances l.side (take l.item-index l.items);
  formed : All IsFormed l.list.items;
}
