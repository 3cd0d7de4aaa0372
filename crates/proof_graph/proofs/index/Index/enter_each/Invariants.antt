-- The first drafts are entered, and the others are left.
use Rattle.std.proofs.Common.{◌≡◌, ◌+◌, ◌≤◌, length, vec_capacity}
use Rattle.std.specs.Vec.Iter.{into_iter_items}
use Rattle.proof_graph.specs.History.{IsLegal}
use Rattle.proof_graph.proofs.Several.{AreEnteringDrafts}
use Rattle.proof_graph.proofs.index.Index.enter_each.Given as goal

abbrev pub invariant-loop-key : goal.invariant-loop-key
invariant-loop-key g l = record {
  next : (goal.iterator-loop-key g).can_next l.key-iterator;
  finite : (goal.iterator-loop-key g).is_finite l.key-iterator;
  entering : AreEnteringDrafts l.nodes l.fn.self.history l.fn.drafts.items (into_iter_items l.key-iterator) l.entered.items l.self.history;
  legal : IsLegal l.self.history;
  home : l.self.home ≡ l.nodes;
  room : length l.entered.items + length (into_iter_items l.key-iterator) ≤ vec_capacity l.entered;
}
