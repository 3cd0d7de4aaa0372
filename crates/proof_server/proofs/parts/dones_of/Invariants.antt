use Rattle.std.proofs.Common.{◌≡◌, ◌+◌, ◌≤◌, ◌++◌, map, length, vec_capacity}
use Rattle.std.specs.Vec.Iter.{into_iter_items}
use Rattle.proof_server.proofs.parts.dones_of.Given as goal

abbrev pub invariant-loop-answer : goal.invariant-loop-answer
invariant-loop-answer l =
    goal.iterator-loop-answer.can_next l.answer-iterator
    × goal.iterator-loop-answer.is_finite l.answer-iterator
    × (l.room.items ++ map (λ answer. answer.0) (into_iter_items l.answer-iterator) ≡ map (λ answer. answer.0) l.fn.answers.items)
    × (length l.room.items + length (into_iter_items l.answer-iterator) ≤ vec_capacity l.room)
