use Rattle.std.proofs.Common.{sym, subst}
use Rattle.reply_lines.specs.declared.replies.StepShown.{StepShown}
use Rattle.reply_lines.specs.Replies.{step_data}
use Rattle.json_text.specs.Tokens.{data_tokens, Adds}
use Rattle.reply_lines.proofs.answers.put_step_fault.Goals as goal

pub returns-in-Reference : goal.returns-in-Reference
returns-in-Reference c =
    subst (λ (cause : StepShown). Adds c.args.out.now c.put_fault.new.out (data_tokens (step_data c.args.step cause))) (sym c.in-Reference.is) c.put_fault.ensures
