-- Arguments have smaller numbers, and fewer places are left.
use Rattle.std.proofs.Common.{◌+◌, ◌-◌, ◌*◌, ◌^◌}
use Rattle.numbered_terms.proofs.terms.NumberedTerms.+values.Given as goal

abbrev pub decreases-values_from : goal.decreases-values_from
decreases-values_from l = l.first * 2 ^ 64 + (2 ^ 64 - 1 - l.place)

abbrev pub decreases-values_of : goal.decreases-values_of
decreases-values_of l = (l.first + 1) * 2 ^ 64
