use Rattle.std.proofs.Common.{sym, ap, ◌∙◌}
use Rattle.fol.specs.Shown.{formula_of}
use Rattle.substitution.proofs.Equivalences.{turned_round}
use Rattle.def_symbols.proofs.sharing.sides.Goals as goal

pub returns-in-Imp-Imp : goal.returns-in-Imp-Imp
returns-in-Imp-Imp c =
    turned_round c.args.formula.now c.in-And.forth c.in-And.back c.in-Imp-Imp.first c.in-Imp-Imp.second c.in-Imp-Imp.other c.in-Imp-Imp.another c.eq.result c.eq-then-eq.result
    (ap formula_of (sym c.in-And.is) ∙ c.node.ensures) (ap formula_of (sym c.in-Imp-Imp.is-0) ∙ c.node-in-And.ensures) (ap formula_of (sym c.in-Imp-Imp.is-1) ∙ c.node-in-And-2.ensures) c.eq.ensures c.if-eq.true c.eq-then-eq.ensures c.if-eq-2.true
