-- Only equal rules tie.
use Rattle.std.proofs.Common.{rules}
use Rattle.lk_rules.proofs.RuleTies.{rule_order_same}
use Rattle.lk_rules.proofs.rule_order.RuleOrd.cmp.Goals as goal

pub returns-clause-ties : goal.returns-clause-ties
returns-clause-ties c = rule_order_same c.args.self.now c.args.other.now c.then_with-3.result (search rules)
