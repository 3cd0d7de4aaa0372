use Rattle.std.proofs.Common.{get_or}
use Rattle.std.proofs.lemmas.List.{get_or_default}
use Rattle.reply_lines.specs.Replies.{count_data}
use Rattle.json_text.proofs.Adding.{adds_then}
use Rattle.reply_lines.proofs.Adding.{joins_start, joins_more, joins_end}
use Rattle.reply_lines.proofs.members.put_list.Goals as goal

pub loop-n-init : goal.loop-n-init
loop-n-init c = joins_start count_data c.args.numbers.now c.begin_array.new.self

pub loop-n-preserved : goal.loop-n-preserved
loop-n-preserved c =
    let l = c.loop-n in
    let numbers = c.args.numbers.now in
    let n = get_or numbers l.n-index 0 in
    joins_more count_data numbers l.n-index n c.begin_array.new.self l.out c.number.new.self
    c.loop-n-test.true (get_or_default numbers l.n-index 0 n c.loop-n-test.true) c.number.ensures l.invariant

pub returns : goal.returns
returns c =
    let l = c.loop-n in
    adds_then c.begin_array.ensures
    (joins_end count_data c.args.numbers.now l.n-index c.begin_array.new.self l.out c.end_array.new.self c.loop-n-test.false c.end_array.ensures l.invariant)
