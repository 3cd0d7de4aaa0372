use Rattle.std.proofs.Common.{◌≡◌, map, take}
use Rattle.std.specs.List.{All}
use Rattle.herbrand_laws.specs.Introduction.{instances_by}
use Rattle.cut_intro.specs.Instances.{meant, IsFormedInstance}
use Rattle.cut_intro.proofs.instances.instances_of.Given as goal

abbrev pub invariant-loop-item : goal.invariant-loop-item
invariant-loop-item l = record {
  so_far : map meant l.list.items ≡ instances_by (λ i. i.tuples) (take l.item-index l.items);
  formed : All IsFormedInstance l.list.items;
}
