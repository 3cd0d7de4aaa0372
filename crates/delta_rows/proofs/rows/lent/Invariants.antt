-- The tuples so far are lent.
use Rattle.std.proofs.Common.{◌≡◌, map, take}
use Rattle.delta_rows.proofs.rows.lent.Given as goal

abbrev pub invariant-loop-tuple : goal.invariant-loop-tuple
invariant-loop-tuple l = map (λ ts. ts.now) l.list.items ≡ take l.tuple-index l.tuples
