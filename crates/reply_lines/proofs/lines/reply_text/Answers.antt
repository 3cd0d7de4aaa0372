use Rattle.std.proofs.Common.{◌≡◌, subst}
use Rattle.std.proofs.lemmas.Result.{IfOk-weaker}
use Rattle.serde_json.specs.Written.{compact_text}
use Rattle.reply_lines.specs.Replies.{reply_data}
use Rattle.json_text.specs.Tokens.{data_tokens, Written, Adds, IsTextOf}
use Rattle.json_text.proofs.Texts.{text_of}
use Rattle.reply_lines.proofs.lines.reply_text.Goals as goal

pub returns : goal.returns
returns c =
    let out = c.put_reply.new.out in
    let said = reply_data c.args.reply.now in
    IfOk-weaker c.finish.result (λ v. IsTextOf out v.items) (λ v. v.items ≡ compact_text said)
    (λ v is. text_of out said v.items (subst (λ (w : Written). Adds w out (data_tokens said)) c.in_ok-out.ensures c.put_reply.ensures) is) c.finish.ensures
