use Rattle.std.proofs.Common.{◌≡◌, subst}
use Rattle.std.proofs.lemmas.Result.{IfOk-weaker}
use Rattle.serde_json.specs.Written.{compact_text}
use Rattle.json_text.specs.Tokens.{data_tokens, Written, Adds, IsTextOf}
use Rattle.job_gen.specs.Generated.{job_data}
use Rattle.json_text.proofs.Texts.{text_of}
use Rattle.job_gen.proofs.lines.job_text.Goals as goal

pub returns : goal.returns
returns c =
    let out = c.put_job.new.out in
    let job = job_data c.args.i in
    IfOk-weaker c.finish.result (λ v. IsTextOf out v.items) (λ v. v.items ≡ compact_text job)
    (λ v is. text_of out job v.items (subst (λ (w : Written). Adds w out (data_tokens job)) c.in_ok-out.ensures c.put_job.ensures) is) c.finish.ensures
