-- What is shown so far, and in the end.
use Rattle.std.proofs.Common.{arith}
use Rattle.reply_lines.specs.Shown.{IsShownStep}
use Rattle.operations.proofs.ShownParts.{one_more, each_shown}
use Rattle.operations.proofs.shown.are_shown_steps.Goals as goal

pub loop-step-preserved : goal.loop-step-preserved
loop-step-preserved c =
    one_more IsShownStep c.args.steps.now c.loop-step.step-index c.step-item.result c.is_shown_step.result c.loop-step-test.true c.step-item.is c.is_shown_step.ensures c.if-not-is_shown_step.false
    c.loop-step.invariant

pub returns : goal.returns
returns c shown = each_shown IsShownStep c.args.steps.now c.loop-step.step-index (omega (arith, c.loop-step-test.false)) c.loop-step.invariant
