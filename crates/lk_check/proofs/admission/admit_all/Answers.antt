-- One step more.
use Rattle.std.proofs.Common.{◌≡◌, ◌<◌, length, map, sym, subst, arith}
use Rattle.std.proofs.lemmas.List.Elements.{All-push}
use Rattle.lk_rules.specs.declared.rule.Step.{Step}
use Rattle.lk_rules.specs.Rules.{IsFormedRule}
use Rattle.proof_graph.specs.Graphs.{IsOf}
use Rattle.step_laws.specs.StepTrees.{tree_over}
use Rattle.turn_log.proofs.Prefixes.{prefix_trans}
use Rattle.lk_check.proofs.Picks.{tree_of}
use Rattle.step_laws.proofs.Picked.{right_inference}
use Rattle.step_laws.proofs.StepEnds.{read_there}
use Rattle.lk_check.proofs.Growing.{trees_next, ends_next}
use Rattle.lk_check.proofs.admission.admit_all.Goals as goal

pub admit_step-requires-clause-inference : goal.admit_step-requires-clause-inference
admit_step-requires-clause-inference g c =
    let within : c.loop-step.step-index < length c.args.steps.now = c.loop-step-test.true in
    let right = c.requires.proof c.loop-step.step-index c.step-item.result (read_there c.args.steps.now c.loop-step.step-index c.step-item.result within c.step-item.is) in
    let formed : IsFormedRule c.step-item.result.rule = subst (λ (s : Step). IsFormedRule s.rule) (sym c.step-item.is) (c.requires.formed c.loop-step.step-index c.step-item.result within) in
    rw c.deref.ensures.value (
    right_inference c.args.steps.now c.loop-step.step-index (omega arith) (map tree_of c.loop-step.proofs.items) c.loop-step.invariant.ends c.step-item.result right formed)

pub loop-step-preserved : goal.loop-step-preserved
loop-step-preserved g c =
    let within : c.loop-step.step-index < length c.args.steps.now = c.loop-step-test.true in
    let tree : c.in_ok-proof.proof.tree ≡ tree_over (map tree_of c.loop-step.proofs.items) c.step-item.result = rw c.deref.ensures.value at c.in_ok-proof.ensures.tree in
    record {
      of = rw c.in_ok-push.ensures.items (All-push (IsOf c.args.graph.now) c.loop-step.proofs.items c.in_ok-proof.proof c.loop-step.invariant.of c.in_ok-proof.ensures.of);
      trees = rw c.in_ok-push.ensures.items (trees_next c.args.steps.now c.loop-step.step-index c.step-item.result c.loop-step.proofs.items c.in_ok-proof.proof within c.step-item.is tree c.loop-step.invariant.trees);
      ends = rw c.in_ok-push.ensures.items (ends_next c.args.steps.now c.loop-step.step-index c.step-item.result c.loop-step.proofs.items c.in_ok-proof.proof within c.step-item.is tree c.loop-step.invariant.ends);
      extends = (c.in_ok-proof.ensures.extends.0, prefix_trans _ _ _ c.loop-step.invariant.extends.1 c.in_ok-proof.ensures.extends.1);
    }
