use Rattle.json_text.proofs.Adding.{adds_then}
use Rattle.reply_lines.proofs.steps.put_main.Goals as goal

pub returns : goal.returns
returns c =
    adds_then c.key.ensures c.put_formula.ensures
