use Rattle.std.proofs.Common.{subst}
use Rattle.fol.specs.declared.symbols.Var.{Var}
use Rattle.reply_lines.specs.Replies.{variable_data}
use Rattle.json_text.specs.Tokens.{data_tokens, Adds}
use Rattle.json_text.proofs.Adding.{adds_then}
use Rattle.reply_lines.proofs.tree_faults.put_variable_fault.Goals as goal

pub returns : goal.returns
returns c =
    let var = subst (λ (v : Var). Adds c.key.new.self c.put_variable.new.out (data_tokens (variable_data v))) c.get.ensures.var c.put_variable.ensures in
    adds_then c.begin_object.ensures (adds_then c.put_text.ensures (adds_then c.key.ensures (adds_then var c.end_object.ensures)))
