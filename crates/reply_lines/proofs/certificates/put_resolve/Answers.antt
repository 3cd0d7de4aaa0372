use Rattle.json_text.proofs.Adding.{adds_then}
use Rattle.reply_lines.proofs.certificates.put_resolve.Goals as goal

pub returns : goal.returns
returns c =
    adds_then c.begin_object.ensures (adds_then c.key.ensures (adds_then c.put_formula.ensures (adds_then c.put_numbers.ensures c.end_object.ensures)))
