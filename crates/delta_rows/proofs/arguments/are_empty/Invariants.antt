-- The rest answers for the whole.
use Rattle.std.proofs.Common.{◌≡◌, drop, map}
use Rattle.herbrand_laws.specs.Patterns.{are_empty}
use Rattle.delta_rows.proofs.arguments.are_empty.Given as goal

abbrev pub invariant-loop-tuple : goal.invariant-loop-tuple
invariant-loop-tuple l = are_empty (map (λ ts. ts.now) (drop l.tuple-index l.tuples)) ≡ are_empty (map (λ ts. ts.now) l.tuples)
