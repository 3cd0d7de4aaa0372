use Rattle.json_text.proofs.Adding.{adds_then}
use Rattle.reply_lines.proofs.certificates.put_clause.Goals as goal

pub returns : goal.returns
returns c =
    adds_then c.begin_object.ensures (adds_then c.put_side.ensures (adds_then c.put_side-2.ensures c.end_object.ensures))
