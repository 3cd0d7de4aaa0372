-- Each rule may be used where it stands.
use Rattle.std.proofs.Common.{◌∙◌}
use Rattle.cut_intro.proofs.BranchSteps.{usable_in, list_one, top_one}
use Rattle.cut_intro.proofs.branch.Branch.new.Goals as goal

pub premise_end-requires-clause-formed : goal.premise_end-requires-clause-formed
premise_end-requires-clause-formed c = (usable_in c.args.rules.now c.args.end c.requires c.loop-rule.rule-index c.rule-item.result c.loop-rule-test.true c.rule-item.is).formed

pub premise_end-requires-clause-shape : goal.premise_end-requires-clause-shape
premise_end-requires-clause-shape c = (usable_in c.args.rules.now c.args.end c.requires c.loop-rule.rule-index c.rule-item.result c.loop-rule-test.true c.rule-item.is).shape

pub premise_end-requires-clause-premise : goal.premise_end-requires-clause-premise
premise_end-requires-clause-premise c = (usable_in c.args.rules.now c.args.end c.requires c.loop-rule.rule-index c.rule-item.result c.loop-rule-test.true c.rule-item.is).premise

pub loop-rule-preserved : goal.loop-rule-preserved
loop-rule-preserved c =
    let rs = c.args.rules.now in
    let i = c.loop-rule.rule-index in
    let r = c.rule-item.result in
    let so_far = c.loop-rule.invariant in
    record {
      so_far = c.in_ok-push.ensures.items ∙ list_one rs c.args.end i r c.loop-rule-test.true c.rule-item.is c.loop-rule.top so_far.top c.loop-rule.list.items so_far.so_far c.in_ok-rule.rule c.in_ok-rule.ensures;
      top = top_one rs c.args.end i r c.loop-rule-test.true c.rule-item.is c.loop-rule.top so_far.top c.in_ok-next.next c.in_ok-next.ensures;
    }
