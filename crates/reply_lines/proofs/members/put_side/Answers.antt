use Rattle.std.proofs.Common.{List, subst}
use Rattle.fol.specs.Syntax.{Formula}
use Rattle.reply_lines.specs.Replies.{formulas_data}
use Rattle.json_text.specs.Tokens.{data_tokens, Adds}
use Rattle.json_text.proofs.Adding.{adds_then}
use Rattle.reply_lines.proofs.members.put_side.Goals as goal

pub returns : goal.returns
returns c =
    adds_then c.key.ensures
    (subst (λ (fs : List Formula). Adds c.key.new.self c.put_formulas.new.out (data_tokens (formulas_data fs))) c.as_slice.ensures.listing c.put_formulas.ensures)
