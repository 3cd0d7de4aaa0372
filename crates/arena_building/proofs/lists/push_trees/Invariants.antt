use Rattle.std.proofs.Common.{◌≡◌, ◌++◌, map, take}
use Rattle.std.specs.List.{All}
use Rattle.arena_cells.specs.Standing.{Extends}
use Rattle.building_laws.specs.Lists.{on}
use Rattle.arena_building.specs.Numbered.{trees, IsNumbered}
use Rattle.arena_building.proofs.lists.push_trees.Given as goal

abbrev pub invariant-loop-tree : goal.invariant-loop-tree
invariant-loop-tree l = record {
  grown : Extends l.fn.arena l.arena;
  numbers : All (IsNumbered l.arena) l.list.items;
  trees : trees l.list.items ≡ trees l.initial.list.items ++ map (on l.side) (take l.tree-index l.trees);
}
