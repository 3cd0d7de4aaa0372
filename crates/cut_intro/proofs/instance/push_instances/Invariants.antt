use Rattle.std.proofs.Common.{◌≡◌, ◌++◌, map, take}
use Rattle.std.specs.List.{All}
use Rattle.cut_intro.specs.Instances.{of_tuple, IsFormedInstance}
use Rattle.cut_intro.proofs.instance.push_instances.Given as goal

abbrev pub invariant-loop-tuple : goal.invariant-loop-tuple
invariant-loop-tuple l = record {
  so_far : l.list.items ≡ l.initial.list.items ++ map (of_tuple l.side l.formula) (take l.tuple-index l.tuples);
  formed : All IsFormedInstance l.list.items;
}
