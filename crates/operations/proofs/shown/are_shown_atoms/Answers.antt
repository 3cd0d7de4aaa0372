-- What is shown so far, and in the end.
use Rattle.std.proofs.Common.{arith}
use Rattle.reply_lines.specs.Shown.{IsShownFormula}
use Rattle.operations.proofs.ShownParts.{one_more, each_shown}
use Rattle.operations.proofs.shown.are_shown_atoms.Goals as goal

pub loop-formula-preserved : goal.loop-formula-preserved
loop-formula-preserved c =
    one_more IsShownFormula c.args.formulas.now c.loop-formula.formula-index c.formula-item.result c.is_shown_atom.result c.loop-formula-test.true c.formula-item.is c.is_shown_atom.ensures c.if-not-is_shown_atom.false
    c.loop-formula.invariant

pub returns : goal.returns
returns c shown = each_shown IsShownFormula c.args.formulas.now c.loop-formula.formula-index (omega (arith, c.loop-formula-test.false)) c.loop-formula.invariant
