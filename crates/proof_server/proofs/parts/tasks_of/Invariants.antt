-- The first parts are the jobs of the tasks so far.
use Rattle.std.proofs.Common.{◌≡◌, ◌++◌, map}
use Rattle.std.specs.List.{All}
use Rattle.std.specs.Vec.Iter.{into_iter_items}
use Rattle.proof_server.specs.Parts.{job_of, has_no_needs}
use Rattle.proof_server.proofs.parts.tasks_of.Given as goal

abbrev pub invariant-loop-part : goal.invariant-loop-part
invariant-loop-part l =
    goal.iterator-loop-part.can_next l.part-iterator
    × goal.iterator-loop-part.is_finite l.part-iterator
    × (map job_of l.tasks.items ++ into_iter_items l.part-iterator ≡ l.fn.parts.items)
    × All has_no_needs l.tasks.items
