use Rattle.json_text.proofs.Adding.{adds_then}
use Rattle.reply_lines.proofs.steps.put_with_term.Goals as goal

pub returns : goal.returns
returns c =
    adds_then c.begin_object.ensures (adds_then c.put_side.ensures (adds_then c.put_main.ensures (adds_then c.put_numbers.ensures (adds_then c.put_side-2.ensures (adds_then c.put_text.ensures (adds_then c.key.ensures (adds_then c.put_term.ensures c.end_object.ensures)))))))
