use Rattle.json_text.proofs.Adding.{adds_then}
use Rattle.reply_lines.proofs.members.put_text.Goals as goal

pub returns : goal.returns
returns c =
    adds_then c.key.ensures c.string.ensures
