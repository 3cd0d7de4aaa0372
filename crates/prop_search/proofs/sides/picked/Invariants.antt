-- What is picked of the formulas so far.
use Rattle.std.proofs.Common.{◌≡◌, filter, take}
use Rattle.prop_search.specs.Bits.{has_number}
use Rattle.prop_search.specs.Formulas.{number_of}
use Rattle.prop_search.proofs.sides.picked.Given as goal

abbrev pub invariant-loop-i : goal.invariant-loop-i
invariant-loop-i l = l.picked.items ≡ filter (λ f. has_number l.words (number_of l.formulas f)) (take l.i l.formulas)
