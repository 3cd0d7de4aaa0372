use Rattle.std.proofs.Common.{sym, subst}
use Rattle.lk_rules.specs.declared.inference.RuleFault.{RuleFault}
use Rattle.reply_lines.specs.declared.replies.StepShown.TheVariants.{Rule}
use Rattle.reply_lines.specs.Replies.{step_data}
use Rattle.json_text.specs.Tokens.{data_tokens, Adds}
use Rattle.reply_lines.proofs.answers.put_rule_fault.Goals as goal

pub returns-in-Premises : goal.returns-in-Premises
returns-in-Premises c =
    subst (λ (fault : RuleFault). Adds c.args.out.now c.put_fault.new.out (data_tokens (step_data c.args.step (Rule fault)))) (sym c.in-Premises.is) c.put_fault.ensures

pub returns-in-Shape : goal.returns-in-Shape
returns-in-Shape c =
    subst (λ (fault : RuleFault). Adds c.args.out.now c.put_fault-in-Shape.new.out (data_tokens (step_data c.args.step (Rule fault)))) (sym c.in-Shape.is) c.put_fault-in-Shape.ensures

pub returns-in-MainMissing : goal.returns-in-MainMissing
returns-in-MainMissing c =
    subst (λ (fault : RuleFault). Adds c.args.out.now c.put_fault-in-MainMissing.new.out (data_tokens (step_data c.args.step (Rule fault)))) (sym c.in-MainMissing.is) c.put_fault-in-MainMissing.ensures

pub returns-in-EigenFree : goal.returns-in-EigenFree
returns-in-EigenFree c =
    subst (λ (fault : RuleFault). Adds c.args.out.now c.put_fault-in-EigenFree.new.out (data_tokens (step_data c.args.step (Rule fault)))) (sym c.in-EigenFree.is) c.put_fault-in-EigenFree.ensures
