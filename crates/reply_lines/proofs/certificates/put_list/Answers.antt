use Rattle.reply_lines.specs.Replies.{res_step_data}
use Rattle.json_text.proofs.Adding.{adds_then}
use Rattle.reply_lines.proofs.Adding.{joins_start, joins_more, joins_end}
use Rattle.reply_lines.proofs.certificates.put_list.Goals as goal

pub loop-step-init : goal.loop-step-init
loop-step-init c = joins_start res_step_data c.args.steps.now c.begin_array.new.self

pub loop-step-preserved : goal.loop-step-preserved
loop-step-preserved c =
    let l = c.loop-step in
    joins_more res_step_data c.args.steps.now l.step-index c.step-item.result c.begin_array.new.self l.out c.put_step.new.out
    c.loop-step-test.true c.step-item.is c.put_step.ensures l.invariant

pub returns : goal.returns
returns c =
    let l = c.loop-step in
    adds_then c.begin_array.ensures
    (joins_end res_step_data c.args.steps.now l.step-index c.begin_array.new.self l.out c.end_array.new.self c.loop-step-test.false c.end_array.ensures l.invariant)
