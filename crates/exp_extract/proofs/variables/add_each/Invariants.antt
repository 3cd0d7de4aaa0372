-- The variables so far are there.
use Rattle.std.proofs.Common.{◌≡◌, take}
use Rattle.finite.specs.Finite as set
use Rattle.exp_extract.proofs.variables.add_each.Given as goal

abbrev pub invariant-loop-var : goal.invariant-loop-var
invariant-loop-var l = l.known ≡ set.adds_each l.initial.known (take l.var-index l.vars)
