-- The numbers so far stand side by side.
use Rattle.std.proofs.Common.{◌≡◌, ◌∷◌, take}
use Rattle.numbered_terms.proofs.rows.side_by_side.Given as goal

abbrev pub invariant-loop-other : goal.invariant-loop-other
invariant-loop-other l = l.numbers.items ≡ l.first ∷ take l.other-index l.others
