use Rattle.reply_lines.specs.Replies.{node_data}
use Rattle.reply_lines.proofs.Adding.{Joins}
use Rattle.reply_lines.proofs.expansions.put_list.Given as goal

abbrev pub invariant-loop-node : goal.invariant-loop-node
invariant-loop-node l = Joins node_data l.nodes l.node-index l.initial.out l.out
