use Rattle.reply_lines.specs.Replies.{clause_data}
use Rattle.json_text.proofs.Adding.{adds_then}
use Rattle.reply_lines.proofs.Adding.{joins_start, joins_more, joins_end}
use Rattle.reply_lines.proofs.certificates.put_clauses.Goals as goal

pub loop-clause-init : goal.loop-clause-init
loop-clause-init c = joins_start clause_data c.args.clauses.now c.begin_array.new.self

pub loop-clause-preserved : goal.loop-clause-preserved
loop-clause-preserved c =
    let l = c.loop-clause in
    joins_more clause_data c.args.clauses.now l.clause-index c.clause-item.result c.begin_array.new.self l.out c.put_clause.new.out
    c.loop-clause-test.true c.clause-item.is c.put_clause.ensures l.invariant

pub returns : goal.returns
returns c =
    let l = c.loop-clause in
    adds_then c.begin_array.ensures
    (joins_end clause_data c.args.clauses.now l.clause-index c.begin_array.new.self l.out c.end_array.new.self c.loop-clause-test.false
    c.end_array.ensures l.invariant)
