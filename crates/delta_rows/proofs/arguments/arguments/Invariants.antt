-- The lists so far go on with those of the rest.
use Rattle.std.proofs.Common.{◌≡◌, ◌++◌, drop, map, option_map}
use Rattle.herbrand_laws.specs.Patterns.{arguments}
use Rattle.delta_rows.proofs.arguments.arguments.Given as goal

abbrev pub invariant-loop-term : goal.invariant-loop-term
invariant-loop-term l = option_map (λ rest. map (λ ts. ts.now) l.lists.items ++ rest) (arguments l.symbol (map (λ t. t.now) (drop l.term-index l.terms))) ≡ arguments l.symbol (map (λ t. t.now) l.terms)
