use Rattle.reply_lines.specs.Replies.{variable_data}
use Rattle.json_text.proofs.Adding.{adds_then}
use Rattle.reply_lines.proofs.Adding.{joins_start, joins_more, joins_end}
use Rattle.reply_lines.proofs.tree_faults.put_variables.Goals as goal

pub loop-var-init : goal.loop-var-init
loop-var-init c = joins_start variable_data c.args.vars.now c.begin_array.new.self

pub loop-var-preserved : goal.loop-var-preserved
loop-var-preserved c =
    let l = c.loop-var in
    joins_more variable_data c.args.vars.now l.var-index c.var-item.result c.begin_array.new.self l.out c.put_variable.new.out
    c.loop-var-test.true c.var-item.is c.put_variable.ensures l.invariant

pub returns : goal.returns
returns c =
    let l = c.loop-var in
    adds_then c.begin_array.ensures
    (joins_end variable_data c.args.vars.now l.var-index c.begin_array.new.self l.out c.end_array.new.self c.loop-var-test.false c.end_array.ensures l.invariant)
