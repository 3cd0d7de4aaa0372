-- The union of two sets.
use Rattle.std.specs.declared.cmp.Ordering.{Ordering}
use Rattle.finite.specs.Finite as set

-- s with each member of t
abbrev pub union_of : {K : Type 0} {R : K → K → Ordering} → set.Finite R → set.Finite R → set.Finite R
union_of s t = set.adds_each s (set.listing t)
