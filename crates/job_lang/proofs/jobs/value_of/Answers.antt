use Rattle.std.proofs.Common.{◌≡◌, Bool, cond, ap, ◌∙◌, arith}
use Rattle.std.specs.Prelude.{None}
use Rattle.std.proofs.lemmas.Str.{is_utf8-from_IsUtf8}
use Rattle.serde_json.specs.Read.{read}
use Rattle.job_words.specs.declared.causes.JobCause.TheVariants.{Json}
use Rattle.job_lang.specs.Fields.{or_fault}
use Rattle.job_lang.proofs.LineValues.{unread_value}
use Rattle.job_lang.proofs.jobs.value_of.Goals as goal

pub returns-in-Ok : goal.returns-in-Ok
returns-in-Ok c =
    let line = c.args.line.now in
    ap (or_fault Json) (ap (λ (b : Bool). cond b (read line) None) (is_utf8-from_IsUtf8 line c.in-Ok.ensures.ok.0) ∙ c.in-Ok.ensures.ok.1)

pub returns-in-Err-Invalid : goal.returns-in-Err-Invalid
returns-in-Err-Invalid c = unread_value c.args.line.now (c.read_value.ensures.invalid (grind arith))
