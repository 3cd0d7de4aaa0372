-- The verdict is no fault exactly where the inference is right.
use Rattle.std.proofs.Common.{rules, Ok, Err, option_copied}
use Rattle.lk_rules.specs.declared.inference.RuleFault.TheVariants.{MainMissing, Premise}
use Rattle.lk_rules.proofs.Rows.{row_checked}
use Rattle.lk_rules.proofs.inference.check.Goals as goal

pub returns-then-not-main_formula_stands-clause-row : goal.returns-then-not-main_formula_stands-clause-row
returns-then-not-main_formula_stands-clause-row c =
    row_checked c.args.rule.now c.args.end.now c.args.count (option_copied c.args.first) (option_copied c.args.second) (Err MainMissing) (search rules)

pub returns-then-not-premise_fits-clause-row : goal.returns-then-not-premise_fits-clause-row
returns-then-not-premise_fits-clause-row c =
    row_checked c.args.rule.now c.args.end.now c.args.count (option_copied c.args.first) (option_copied c.args.second) (Err (Premise 0)) (search rules)

pub returns-clause-row : goal.returns-clause-row
returns-clause-row c =
    row_checked c.args.rule.now c.args.end.now c.args.count (option_copied c.args.first) (option_copied c.args.second) (Ok tt) (search rules)

pub returns-then-not-premise_fits-2-clause-row : goal.returns-then-not-premise_fits-2-clause-row
returns-then-not-premise_fits-2-clause-row c =
    row_checked c.args.rule.now c.args.end.now c.args.count (option_copied c.args.first) (option_copied c.args.second) (Err (Premise 1)) (search rules)
