use Rattle.std.proofs.Common.{◌≡◌, ◌++◌, map, take}
use Rattle.herbrand_laws.specs.Herbrand.{item_of}
use Rattle.cut_intro.proofs.items.push_items.Given as goal

abbrev pub invariant-loop-tree : goal.invariant-loop-tree
invariant-loop-tree l = l.items.items ≡ l.initial.items.items ++ map (item_of l.side) (take l.tree-index l.trees)
