-- The trees so far are entered.
use Rattle.std.proofs.Common.{◌≡◌, true, map, take, length}
use Rattle.exp_tree.specs.FlatLists.{tree_at}
use Rattle.exp_tree.specs.Subtrees.{subtrees_each, with_each}
use Rattle.exp_tree.proofs.TableTrees.{are_below}
use Rattle.exp_tree.proofs.writing.enter_each.Given as goal

abbrev pub invariant-loop-tree : goal.invariant-loop-tree
invariant-loop-tree l = record {
  trees : l.table ≡ with_each l.initial.table (subtrees_each (take l.tree-index l.trees));
  earlier : are_below (length l.table) l.places.items ≡ true;
  roots : map (tree_at l.table) l.places.items ≡ take l.tree-index l.trees;
}
