use Rattle.reply_lines.specs.Replies.{count_data}
use Rattle.reply_lines.proofs.Adding.{Joins}
use Rattle.reply_lines.proofs.members.put_list.Given as goal

abbrev pub invariant-loop-n : goal.invariant-loop-n
invariant-loop-n l = Joins count_data l.numbers l.n-index l.initial.out l.out
