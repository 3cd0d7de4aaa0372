use Rattle.std.proofs.Common.{List, ℕ, subst, codes}
use Rattle.json_text.specs.Tokens.{data_tokens, Adds}
use Rattle.reply_lines.specs.Tokens.{fault_data}
use Rattle.reply_lines.proofs.answers.put_refutation_fault.Goals as goal

pub returns : goal.returns
returns c =
    subst (λ (cause : List ℕ). Adds c.args.out.now c.put_fault.new.out (data_tokens (fault_data cause (codes "refutation") c.args.step)))
    c.refutation_cause.ensures c.put_fault.ensures
