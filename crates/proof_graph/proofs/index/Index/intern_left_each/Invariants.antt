-- The first candidates are entered, and the others are left.
use Rattle.std.proofs.Common.{◌≡◌, ◌+◌, ◌≤◌, length, vec_capacity}
use Rattle.std.specs.Vec.Iter.{into_iter_items}
use Rattle.proof_graph.specs.History.{IsLegal, StandEach}
use Rattle.proof_graph.specs.Entered.{made_in}
use Rattle.proof_graph.proofs.Several.{AreEnteringLeft}
use Rattle.proof_graph.proofs.index.Index.intern_left_each.Given as goal

abbrev pub invariant-loop-one : goal.invariant-loop-one
invariant-loop-one g l = record {
  next : (goal.iterator-loop-one g).can_next l.one-iterator;
  finite : (goal.iterator-loop-one g).is_finite l.one-iterator;
  entering : AreEnteringLeft l.nodes l.fn.self.history l.fn.candidates.items (into_iter_items l.one-iterator) l.entered.items l.self.history;
  stand : StandEach l.self.history (made_in (into_iter_items l.one-iterator));
  legal : IsLegal l.self.history;
  home : l.self.home ≡ l.nodes;
  room : length l.entered.items + length (into_iter_items l.one-iterator) ≤ vec_capacity l.entered;
}
