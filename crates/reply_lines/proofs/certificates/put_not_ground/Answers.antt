use Rattle.json_text.proofs.Adding.{adds_then}
use Rattle.reply_lines.proofs.certificates.put_not_ground.Goals as goal

pub returns : goal.returns
returns c =
    adds_then c.begin_object.ensures (adds_then c.put_number.ensures (adds_then c.put_text.ensures c.end_object.ensures))
