use Rattle.json_text.proofs.Adding.{adds_then}
use Rattle.reply_lines.proofs.tree_faults.put_side_fault.Goals as goal

pub returns : goal.returns
returns c =
    adds_then c.begin_object.ensures (adds_then c.key.ensures (adds_then c.put_formula.ensures (adds_then c.put_text.ensures (adds_then c.put_side_name.ensures c.end_object.ensures))))
