-- The columns so far go on with those of the rest.
use Rattle.std.proofs.Common.{◌≡◌, ◌++◌, drop, map, option_map}
use Rattle.herbrand_laws.specs.Patterns.{separated}
use Rattle.delta_rows.specs.Shown.{columns}
use Rattle.delta_rows.proofs.arguments.separated.Given as goal

abbrev pub invariant-loop-tuple : goal.invariant-loop-tuple
invariant-loop-tuple l =
    option_map (λ ps. (map (λ t. t.now) l.firsts.items ++ (columns ps).0, map (λ ts. ts.now) l.others.items ++ (columns ps).1)) (separated (map (λ ts. ts.now) (drop l.tuple-index l.tuples)))
    ≡ option_map columns (separated (map (λ ts. ts.now) l.tuples))
