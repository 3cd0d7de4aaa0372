use Rattle.std.proofs.Common.{codes, sym, subst}
use Rattle.fol.specs.Syntax.{Formula}
use Rattle.reply_lines.specs.declared.replies.Outcome.{Outcome}
use Rattle.reply_lines.specs.Replies.{side_fault, answer_data}
use Rattle.json_text.specs.Tokens.{data_tokens, Adds}
use Rattle.reply_lines.specs.Tokens.{said}
use Rattle.reply_lines.proofs.answers.put_answer.Goals as goal

pub returns-in-LineTooLong : goal.returns-in-LineTooLong
returns-in-LineTooLong c =
    subst (λ (outcome : Outcome). Adds c.args.out.now c.put_plain.new.out (data_tokens (said (answer_data outcome)))) (sym c.in-LineTooLong.is) c.put_plain.ensures

pub returns-in-EigenTwice : goal.returns-in-EigenTwice
returns-in-EigenTwice c =
    subst (λ (outcome : Outcome). Adds c.args.out.now c.put_variable_fault.new.out (data_tokens (said (answer_data outcome)))) (sym c.in-EigenTwice.is) c.put_variable_fault.ensures

pub returns-in-EigenFree : goal.returns-in-EigenFree
returns-in-EigenFree c =
    subst (λ (outcome : Outcome). Adds c.args.out.now c.put_variable_fault-in-EigenFree.new.out (data_tokens (said (answer_data outcome)))) (sym c.in-EigenFree.is)
    c.put_variable_fault-in-EigenFree.ensures

pub returns-in-DefFree : goal.returns-in-DefFree
returns-in-DefFree c =
    subst (λ (outcome : Outcome). Adds c.args.out.now c.put_variable_fault-in-DefFree.new.out (data_tokens (said (answer_data outcome)))) (sym c.in-DefFree.is)
    c.put_variable_fault-in-DefFree.ensures

pub returns-in-Quantified : goal.returns-in-Quantified
returns-in-Quantified c =
    subst (λ (outcome : Outcome). Adds c.args.out.now c.put_side_fault.new.out (data_tokens (said (answer_data outcome)))) (sym c.in-Quantified.is)
    (subst (λ (f : Formula). Adds c.args.out.now c.put_side_fault.new.out (data_tokens (side_fault (codes "quantified") f c.in-Quantified.side))) c.get-in-Quantified.ensures.formula c.put_side_fault.ensures)

pub returns-in-Defined : goal.returns-in-Defined
returns-in-Defined c =
    subst (λ (outcome : Outcome). Adds c.args.out.now c.put_side_fault-in-Defined.new.out (data_tokens (said (answer_data outcome)))) (sym c.in-Defined.is)
    (subst (λ (f : Formula). Adds c.args.out.now c.put_side_fault-in-Defined.new.out (data_tokens (side_fault (codes "defined") f c.in-Defined.side))) c.get-in-Defined.ensures.formula c.put_side_fault-in-Defined.ensures)

pub returns-in-Partition : goal.returns-in-Partition
returns-in-Partition c =
    subst (λ (outcome : Outcome). Adds c.args.out.now c.put_side_fault-in-Partition.new.out (data_tokens (said (answer_data outcome)))) (sym c.in-Partition.is)
    (subst (λ (f : Formula). Adds c.args.out.now c.put_side_fault-in-Partition.new.out (data_tokens (side_fault (codes "partition") f c.in-Partition.side))) c.get-in-Partition.ensures.formula c.put_side_fault-in-Partition.ensures)

pub returns-in-NotPrenex : goal.returns-in-NotPrenex
returns-in-NotPrenex c =
    subst (λ (outcome : Outcome). Adds c.args.out.now c.put_side_fault-in-NotPrenex.new.out (data_tokens (said (answer_data outcome)))) (sym c.in-NotPrenex.is)
    (subst (λ (f : Formula). Adds c.args.out.now c.put_side_fault-in-NotPrenex.new.out (data_tokens (side_fault (codes "not_prenex") f c.in-NotPrenex.side))) c.get-in-NotPrenex.ensures.formula c.put_side_fault-in-NotPrenex.ensures)

pub returns-in-DefLarge : goal.returns-in-DefLarge
returns-in-DefLarge c =
    subst (λ (outcome : Outcome). Adds c.args.out.now c.put_plain-in-DefLarge.new.out (data_tokens (said (answer_data outcome)))) (sym c.in-DefLarge.is) c.put_plain-in-DefLarge.ensures
