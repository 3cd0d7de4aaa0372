use Rattle.json_text.proofs.Adding.{adds_then}
use Rattle.reply_lines.proofs.certificates.put_refuted.Goals as goal

pub returns : goal.returns
returns c =
    let steps = adds_then c.key-2.ensures (adds_then c.put_list.ensures c.end_object.ensures) in
    adds_then c.begin_object.ensures (adds_then c.key.ensures (adds_then c.boolean.ensures steps))
