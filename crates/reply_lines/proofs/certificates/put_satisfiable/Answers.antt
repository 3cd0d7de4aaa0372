use Rattle.json_text.proofs.Adding.{adds_then}
use Rattle.reply_lines.proofs.certificates.put_satisfiable.Goals as goal

pub returns : goal.returns
returns c =
    adds_then c.begin_object.ensures (adds_then c.key.ensures (adds_then c.boolean.ensures (adds_then c.put_side.ensures c.end_object.ensures)))
