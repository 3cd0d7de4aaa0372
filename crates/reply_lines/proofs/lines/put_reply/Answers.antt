use Rattle.std.proofs.Common.{List, ℕ, sym, ap, ◌∙◌, subst}
use Rattle.std.specs.Prelude.{Option}
use Rattle.serde_json.specs.Data.{Data}
use Rattle.reply_lines.specs.Replies.{name_data, ok_data, error_data, answer_data}
use Rattle.json_text.specs.Tokens.{data_tokens, Adds}
use Rattle.reply_lines.specs.Tokens.{said}
use Rattle.reply_lines.proofs.ReplyTexts.{reply_ok, reply_error}
use Rattle.reply_lines.proofs.lines.put_reply.Goals as goal

pub returns-then-is_ok : goal.returns-then-is_ok
returns-then-is_ok c =
    let reply = c.args.reply.now in
    let answer = answer_data reply.outcome in
    subst (λ (d : Data). Adds c.args.out.now c.put_ok.new.out (data_tokens d))
    (ap (λ (name : Option (List ℕ)). ok_data (said answer) (name_data name) reply.n) c.as_ref-name.ensures.value
    ∙ reply_ok answer (name_data reply.name) reply.n (sym c.is_ok.ensures ∙ c.if-is_ok.true))
    c.put_ok.ensures

pub returns-else-is_ok : goal.returns-else-is_ok
returns-else-is_ok c =
    let reply = c.args.reply.now in
    let answer = answer_data reply.outcome in
    subst (λ (d : Data). Adds c.args.out.now c.put_error.new.out (data_tokens d))
    (ap (λ (name : Option (List ℕ)). error_data (said answer) (name_data name) reply.n) c.as_ref-name.ensures.value
    ∙ reply_error answer (name_data reply.name) reply.n (sym c.is_ok.ensures ∙ c.if-is_ok.false))
    c.put_error.ensures
