-- The last inference that is left is right over the proof so far.
use Rattle.std.proofs.Common.{ap, sym, subst, ◌∙◌}
use Rattle.turn_log.proofs.Prefixes.{prefix_trans}
use Rattle.proof_trees.specs.Trees.{Tree}
use Rattle.cut_intro.specs.Branches.{over_each, AreInferences}
use Rattle.cut_intro.proofs.BranchSteps.{popped_whole, popped_right, popped_rest}
use Rattle.cut_intro.proofs.branch.over.Goals as goal

pub intern-requires-clause-inference : goal.intern-requires-clause-inference
intern-requires-clause-inference g c = popped_right c.loop-rule.list.items c.pop.new.self.items c.in-Some.field-0 c.loop-rule.proof.tree c.in-Some.ensures.items c.loop-rule.invariant.right

pub loop-rule-preserved : goal.loop-rule-preserved
loop-rule-preserved g c = record {
  whole =
      ap (over_each c.pop.new.self.items) c.in_ok-next.ensures.tree
      ∙ (popped_whole c.loop-rule.list.items c.pop.new.self.items c.in-Some.field-0 c.loop-rule.proof.tree c.in-Some.ensures.items ∙ c.loop-rule.invariant.whole);
  right =
      subst (λ (t : Tree). AreInferences c.pop.new.self.items t) (sym c.in_ok-next.ensures.tree)
      (popped_rest c.loop-rule.list.items c.pop.new.self.items c.in-Some.field-0 c.loop-rule.proof.tree c.in-Some.ensures.items c.loop-rule.invariant.right);
  of = c.in_ok-next.ensures.of;
  extends = (c.in_ok-next.ensures.pass_stays, prefix_trans _ _ _ c.loop-rule.invariant.extends.1 c.in_ok-next.ensures.grown);
}
