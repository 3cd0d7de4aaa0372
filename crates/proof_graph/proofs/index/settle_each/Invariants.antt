-- The first references are settled, and the others are left.
use Rattle.std.proofs.Common.{◌≡◌, ◌+◌, ◌≤◌, ◌++◌, map, length, vec_capacity}
use Rattle.std.specs.List.{All}
use Rattle.std.specs.Vec.Iter.{into_iter_items}
use Rattle.proof_graph.specs.Entered.{IsEntered, tree_entered, made_in}
use Rattle.proof_graph.proofs.index.settle_each.Given as goal

abbrev pub invariant-loop-one : goal.invariant-loop-one
invariant-loop-one l = record {
  next : goal.iterator-loop-one.can_next l.one-iterator;
  finite : goal.iterator-loop-one.is_finite l.one-iterator;
  entered : All (IsEntered l.nodes) (into_iter_items l.one-iterator);
  made : l.made.items ++ made_in (into_iter_items l.one-iterator) ≡ made_in l.fn.entered.items;
  trees : map (λ r. r.tree) l.made.items ++ map tree_entered (into_iter_items l.one-iterator) ≡ map tree_entered l.fn.entered.items;
  room : length l.made.items + length (into_iter_items l.one-iterator) ≤ vec_capacity l.made;
}
