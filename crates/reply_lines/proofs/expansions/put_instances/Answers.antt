use Rattle.reply_lines.specs.Replies.{instance_data}
use Rattle.json_text.proofs.Adding.{adds_then}
use Rattle.reply_lines.proofs.Adding.{joins_start, joins_more, joins_end}
use Rattle.reply_lines.proofs.expansions.put_instances.Goals as goal

pub loop-instance-init : goal.loop-instance-init
loop-instance-init c = joins_start instance_data c.args.instances.now c.begin_array.new.self

pub loop-instance-preserved : goal.loop-instance-preserved
loop-instance-preserved c =
    let l = c.loop-instance in
    joins_more instance_data c.args.instances.now l.instance-index c.instance-item.result c.begin_array.new.self l.out c.put_instance.new.out
    c.loop-instance-test.true c.instance-item.is c.put_instance.ensures l.invariant

pub returns : goal.returns
returns c =
    let l = c.loop-instance in
    adds_then c.begin_array.ensures
    (joins_end instance_data c.args.instances.now l.instance-index c.begin_array.new.self l.out c.end_array.new.self c.loop-instance-test.false c.end_array.ensures l.invariant)
