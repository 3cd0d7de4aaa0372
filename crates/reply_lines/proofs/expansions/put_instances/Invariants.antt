use Rattle.reply_lines.specs.Replies.{instance_data}
use Rattle.reply_lines.proofs.Adding.{Joins}
use Rattle.reply_lines.proofs.expansions.put_instances.Given as goal

abbrev pub invariant-loop-instance : goal.invariant-loop-instance
invariant-loop-instance l = Joins instance_data l.instances l.instance-index l.initial.out l.out
