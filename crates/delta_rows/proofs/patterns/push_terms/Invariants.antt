-- The terms so far are appended.
use Rattle.std.proofs.Common.{◌≡◌, ◌++◌, map, take}
use Rattle.delta_rows.proofs.patterns.push_terms.Given as goal

abbrev pub invariant-loop-term : goal.invariant-loop-term
invariant-loop-term l = l.list.items ≡ l.initial.list.items ++ map (λ t. t.now) (take l.term-index l.terms)
