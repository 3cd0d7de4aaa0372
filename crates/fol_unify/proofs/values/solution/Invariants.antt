-- The map has the values of the variables so far.
use Rattle.fol_unify.specs.Values.{IsSolution}
use Rattle.fol_unify.proofs.values.solution.Given as goal

abbrev pub invariant-loop-number : goal.invariant-loop-number
invariant-loop-number l = IsSolution l.cells l.roots l.marks l.number l.map
