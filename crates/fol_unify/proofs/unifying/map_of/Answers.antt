-- The map of all values solves the equations.
use Rattle.std.proofs.Common.{length, sym, subst}
use Rattle.fol_unify.specs.Values.{AreValued, AreDone}
use Rattle.fol_unify.proofs.Solved.{solved_stays}
use Rattle.fol_unify.proofs.Solution.{unified, general, proper}
use Rattle.fol_unify.proofs.unifying.map_of.Goals as goal

pub solution-requires-clause-solved : goal.solution-requires-clause-solved
solution-requires-clause-solved c = solved_stays c.args.cells.now c.all_values.new.cells c.args.pairs.now c.args.roots.now c.in_ok-marks.ensures.grown c.requires.solved

pub returns-clause-unifies : goal.returns-clause-unifies
returns-clause-unifies c =
    let a = c.all_values.new.cells in
    let es = c.args.pairs.now in
    let rs = c.args.roots.now in
    let ms = c.as_slice.result.now in
    unified a es rs ms c.known.ensures (solved_stays c.args.cells.now a es rs c.in_ok-marks.ensures.grown c.requires.solved) (subst (AreValued a es rs) (sym c.as_slice.ensures.value) c.in_ok-marks.ensures.valued) c.in_ok-map.map c.in_ok-map.ensures.solution
    (subst (λ m. AreDone a rs m (length rs)) (sym c.as_slice.ensures.value) c.in_ok-marks.ensures.done)

pub returns-clause-general : goal.returns-clause-general
returns-clause-general c =
    let a = c.all_values.new.cells in
    let es = c.args.pairs.now in
    let rs = c.args.roots.now in
    let ms = c.as_slice.result.now in
    general a es rs ms c.known.ensures (solved_stays c.args.cells.now a es rs c.in_ok-marks.ensures.grown c.requires.solved) (subst (AreValued a es rs) (sym c.as_slice.ensures.value) c.in_ok-marks.ensures.valued) c.in_ok-map.map c.in_ok-map.ensures.solution

pub returns-clause-proper : goal.returns-clause-proper
returns-clause-proper c =
    let a = c.all_values.new.cells in
    let es = c.args.pairs.now in
    let rs = c.args.roots.now in
    let ms = c.as_slice.result.now in
    proper a es rs ms c.known.ensures (solved_stays c.args.cells.now a es rs c.in_ok-marks.ensures.grown c.requires.solved) (subst (AreValued a es rs) (sym c.as_slice.ensures.value) c.in_ok-marks.ensures.valued) c.in_ok-map.map c.in_ok-map.ensures.solution
