use Rattle.cut_intro.proofs.Steps.{rules_one}
use Rattle.std.proofs.Common.{◌∙◌}
use Rattle.cut_intro.proofs.rules.push_rules_for.Goals as goal

pub loop-instance-preserved : goal.loop-instance-preserved
loop-instance-preserved c =
    c.in_ok-push_rules_by.ensures
    ∙ rules_one c.args.instances.now c.loop-instance.instance-index c.instance-item.result c.loop-instance-test.true c.instance-item.is c.args.rules.now.items c.loop-instance.rules.items c.loop-instance.invariant
