-- The tuples so far are copied.
use Rattle.std.proofs.Common.{◌≡◌, take}
use Rattle.delta_table.proofs.tuples.Tuples.copy.Given as goal

abbrev pub invariant-loop-tuple : goal.invariant-loop-tuple
invariant-loop-tuple l = l.items.items ≡ take l.tuple-index l.tuple-items
