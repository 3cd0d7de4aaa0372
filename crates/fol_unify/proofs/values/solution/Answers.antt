-- At first no variable is bound.
use Rattle.std.proofs.Common.{sym, subst}
use Rattle.fol_unify.specs.Values.{IsSolution}
use Rattle.fol_unify.proofs.Bindings.{none_bound}
use Rattle.fol_unify.proofs.values.solution.Goals as goal

pub loop-number-init : goal.loop-number-init
loop-number-init c = subst (IsSolution c.args.cells.now c.args.roots.now c.args.marks.now 0) (sym c.new-map.ensures) (none_bound c.args.cells.now c.args.roots.now c.args.marks.now)
