-- The terms so far are copied.
use Rattle.std.proofs.Common.{◌≡◌, take}
use Rattle.delta_rows.proofs.values.Values.copy.Given as goal

abbrev pub invariant-loop-term : goal.invariant-loop-term
invariant-loop-term l = l.items.items ≡ take l.term-index l.term-items
