use Rattle.reply_lines.specs.Replies.{res_step_data}
use Rattle.reply_lines.proofs.Adding.{Joins}
use Rattle.reply_lines.proofs.certificates.put_list.Given as goal

abbrev pub invariant-loop-step : goal.invariant-loop-step
invariant-loop-step l = Joins res_step_data l.steps l.step-index l.initial.out l.out
