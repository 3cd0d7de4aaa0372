-- One draft more is made.
use Rattle.std.proofs.Common.{map}
use Rattle.std.specs.Vec.Iter.{into_iter_items}
use Rattle.std.proofs.lemmas.List.Elements.{All-rest, All-push}
use Rattle.proof_graph.specs.declared.node.Node.{Node}
use Rattle.proof_graph.specs.declared.reference.Draft.{Draft}
use Rattle.proof_graph.specs.Drafts.{IsDraftOf, drafted}
use Rattle.proof_graph.specs.Inferences.{IsInferenceOf, tree_by, key_by}
use Rattle.proof_graph.proofs.Several.{moved_seen}
use Rattle.proof_graph.proofs.graph.Graph.drafts.Goals as goal

pub loop-inference-preserved : goal.loop-inference-preserved
loop-inference-preserved c =
    let before = c.loop-inference.invariant in
    let nodes = c.args.self.now.nodes in
    let done = c.loop-inference.drafts.items in
    let left = into_iter_items c.loop-inference.inference-iterator in
    let rest = into_iter_items c.next.new.self in
    let taken = c.in-Some.ensures.steps.0 in
    let draft = c.in_ok-draft.field-0 in
    let is = c.in_ok-draft.ensures in
    record {
      next = tt;
      finite = tt;
      inferences = All-rest (IsInferenceOf c.args.self.now) c.in-Some.inference rest left taken before.inferences;
      drafts = rw c.in_ok-push.ensures.items (All-push (λ (d : Node × Draft). IsDraftOf nodes d.0 d.1) done draft before.drafts is.draft);
      keys =
          rw c.in_ok-push.ensures.items
          (moved_seen key_by (λ (d : Node × Draft). d.0) done draft c.in-Some.inference left rest (map key_by c.args.inferences.items) before.keys taken is.key);
      trees =
          rw c.in_ok-push.ensures.items
          (moved_seen tree_by (λ (d : Node × Draft). drafted d.1) done draft c.in-Some.inference left rest (map tree_by c.args.inferences.items) before.trees taken is.tree);
    }
