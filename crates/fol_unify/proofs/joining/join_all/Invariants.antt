-- The classes and the pairs that are left say what the equations do. Each step leaves less.
use Rattle.fol_unify.specs.Solving.{IsUnifying}
use Rattle.fol_unify.specs.Joining.{work_left}
use Rattle.fol_unify.proofs.joining.join_all.Given as goal

abbrev pub invariant-loop-pair : goal.invariant-loop-pair
invariant-loop-pair l = IsUnifying l.cells l.equations l.classes l.work.items

abbrev pub decreases-loop-pair : goal.decreases-loop-pair
decreases-loop-pair l = work_left l.classes l.work.items
