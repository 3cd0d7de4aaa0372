use Rattle.reply_lines.specs.Replies.{variable_data}
use Rattle.reply_lines.proofs.Adding.{Joins}
use Rattle.reply_lines.proofs.tree_faults.put_variables.Given as goal

abbrev pub invariant-loop-var : goal.invariant-loop-var
invariant-loop-var l = Joins variable_data l.vars l.var-index l.initial.out l.out
