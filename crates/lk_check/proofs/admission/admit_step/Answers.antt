-- The inference is over the references that the step names.
use Rattle.std.proofs.Common.{◌≡◌, ◌∙◌}
use Rattle.std.specs.Prelude.{slice_get}
use Rattle.std.specs.List.{filter_map}
use Rattle.proof_graph.specs.Graphs.{IsOf}
use Rattle.step_laws.proofs.Picked.{all_picked}
use Rattle.lk_check.proofs.Picks.{tree_picked, inference_picked}
use Rattle.lk_check.proofs.admission.admit_step.Goals as goal

pub intern-requires-clause-premises_of : goal.intern-requires-clause-premises_of
intern-requires-clause-premises_of g c =
    let picked : c.deref.result.now ≡ filter_map (slice_get c.args.proofs.now) c.args.step.now.premises = c.deref.ensures.value ∙ (rw c.as_slice.ensures at c.in_ok-premises.ensures) in
    rw picked (all_picked (IsOf c.args.graph.now) c.args.proofs.now c.args.step.now.premises c.requires.proofs_of)

pub intern-requires-clause-inference : goal.intern-requires-clause-inference
intern-requires-clause-inference g c =
    inference_picked c.args.step.now c.in_ok-rule.rule c.in_ok-end.end c.deref.result.now c.args.proofs.now c.in_ok-rule.ensures c.in_ok-end.ensures
    (c.deref.ensures.value ∙ (rw c.as_slice.ensures at c.in_ok-premises.ensures)) c.requires.inference

pub returns-clause-tree : goal.returns-clause-tree
returns-clause-tree g c =
    let same = tree_picked c.args.step.now c.in_ok-rule.rule c.in_ok-end.end c.deref.result.now c.args.proofs.now c.in_ok-rule.ensures c.in_ok-end.ensures
    (c.deref.ensures.value ∙ (rw c.as_slice.ensures at c.in_ok-premises.ensures)) in
    rw same at c.intern.ensures.tree
