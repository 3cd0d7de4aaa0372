use Rattle.reply_lines.specs.Replies.{node_data}
use Rattle.json_text.proofs.Adding.{adds_then}
use Rattle.reply_lines.proofs.Adding.{joins_start, joins_more, joins_end}
use Rattle.reply_lines.proofs.expansions.put_list.Goals as goal

pub loop-node-init : goal.loop-node-init
loop-node-init c = joins_start node_data c.args.nodes.now c.begin_array.new.self

pub loop-node-preserved : goal.loop-node-preserved
loop-node-preserved c =
    let l = c.loop-node in
    joins_more node_data c.args.nodes.now l.node-index c.node-item.result c.begin_array.new.self l.out c.put_node.new.out
    c.loop-node-test.true c.node-item.is c.put_node.ensures l.invariant

pub returns : goal.returns
returns c =
    let l = c.loop-node in
    adds_then c.begin_array.ensures
    (joins_end node_data c.args.nodes.now l.node-index c.begin_array.new.self l.out c.end_array.new.self c.loop-node-test.false c.end_array.ensures l.invariant)
