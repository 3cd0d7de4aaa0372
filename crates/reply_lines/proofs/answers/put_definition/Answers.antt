use Rattle.json_text.proofs.Adding.{adds_then}
use Rattle.reply_lines.proofs.answers.put_definition.Goals as goal

pub returns : goal.returns
returns c =
    adds_then c.begin_object.ensures (adds_then c.put_number.ensures (adds_then c.key.ensures (adds_then c.put_formula.ensures
    (adds_then c.key-2.ensures (adds_then c.put_symbol.ensures c.end_object.ensures)))))
