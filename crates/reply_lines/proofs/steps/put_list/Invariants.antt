use Rattle.reply_lines.specs.Replies.{proof_step}
use Rattle.reply_lines.proofs.Adding.{Joins}
use Rattle.reply_lines.proofs.steps.put_list.Given as goal

abbrev pub invariant-loop-step : goal.invariant-loop-step
invariant-loop-step l = Joins proof_step l.steps l.step-index l.initial.out l.out
