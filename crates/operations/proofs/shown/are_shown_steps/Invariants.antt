-- A line can tell the steps so far.
use Rattle.std.proofs.Common.{take}
use Rattle.std.specs.List.{All}
use Rattle.reply_lines.specs.Shown.{IsShownStep}
use Rattle.operations.proofs.shown.are_shown_steps.Given as goal

abbrev pub invariant-loop-step : goal.invariant-loop-step
invariant-loop-step l = All IsShownStep (take l.step-index l.steps)
