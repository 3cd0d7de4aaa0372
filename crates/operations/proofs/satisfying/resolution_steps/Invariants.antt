-- The steps so far are there, and a line can tell them.
use Rattle.std.proofs.Common.{◌≡◌, map, take}
use Rattle.std.specs.List.{All}
use Rattle.ground_laws.specs.Steps.{res_step}
use Rattle.reply_lines.specs.Shown.{IsShownStep}
use Rattle.operations.proofs.satisfying.resolution_steps.Given as goal

abbrev pub invariant-loop-step : goal.invariant-loop-step
invariant-loop-step l = (l.list.items ≡ map res_step (take l.step-index l.steps)) × All (λ step. IsShownStep (res_step step)) (take l.step-index l.steps)
