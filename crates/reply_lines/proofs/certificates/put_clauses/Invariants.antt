use Rattle.reply_lines.specs.Replies.{clause_data}
use Rattle.reply_lines.proofs.Adding.{Joins}
use Rattle.reply_lines.proofs.certificates.put_clauses.Given as goal

abbrev pub invariant-loop-clause : goal.invariant-loop-clause
invariant-loop-clause l = Joins clause_data l.clauses l.clause-index l.initial.out l.out
