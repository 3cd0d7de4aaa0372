-- The bindings so far that are kept are there.
use Rattle.std.proofs.Common.{take}
use Rattle.substitution.proofs.Restricting.{HasKept}
use Rattle.substitution.proofs.maps.Subst.restrict.Given as goal

abbrev pub invariant-loop-var : goal.invariant-loop-var
invariant-loop-var l = HasKept l.self l.vars (take l.var-index l.var-items) l.needed
