use Rattle.std.proofs.Common.{◌≡◌, map, take}
use Rattle.herbrand_laws.specs.Patterns.{put}
use Rattle.cut_intro.proofs.filling.put_each.Given as goal

abbrev pub invariant-loop-pattern : goal.invariant-loop-pattern
invariant-loop-pattern l = l.tuples.items ≡ map (λ p. put p l.term) (take l.pattern-index l.patterns)
