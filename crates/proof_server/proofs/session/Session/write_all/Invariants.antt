-- The replies to the first jobs are written, and those of the others are due.
use Rattle.std.proofs.Common.{◌≡◌, ℕ, ◌+◌, ◌<◌, ◌≤◌, List, length, vec_capacity}
use Rattle.std.specs.Vec.Iter.{into_iter_items}
use Rattle.cut_elim.specs.declared.desk.Desk.{Desk}
use Rattle.proof_server.specs.Turn.{IsWriting, WritesMore}
use Rattle.proof_server.proofs.session.Session.write_all.Given as goal

abbrev pub invariant-loop-due : goal.invariant-loop-due
invariant-loop-due g l =
    (goal.iterator-loop-due g).can_next l.due-iterator
    × (goal.iterator-loop-due g).is_finite l.due-iterator
    × ((desk : Desk) (asked : List (List ℕ)) (written : List ℕ) → IsWriting desk l.fn.self asked written l.fn.dues.items
    → WritesMore (λ bytes. IsWriting desk l.self asked bytes (into_iter_items l.due-iterator)) written (g.K.Sink.written l.fn.sink) (g.K.Sink.written l.sink))
    × (l.self.count + length (into_iter_items l.due-iterator) ≡ l.fn.self.count + length l.fn.dues.items)
    × (l.self.window ≡ l.fn.self.window)
    × (g.K.Sink.faults l.fn.sink ≤ g.K.Sink.faults l.sink)
    × (l.self.store.pass ≡ l.fn.self.store.pass)
    × (0 < length (into_iter_items l.due-iterator) → length l.self.store.held.items + length (into_iter_items l.due-iterator) ≤ vec_capacity l.self.store.held)
