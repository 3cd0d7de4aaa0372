-- The inferences that are left are right over the proof so far, and give the whole.
use Rattle.std.proofs.Common.{◌≡◌, vec_len}
use Rattle.proof_graph.specs.Graphs.{IsOf, Extends}
use Rattle.cut_intro.specs.Branches.{over_each, AreInferences}
use Rattle.cut_intro.proofs.branch.over.Given as goal

abbrev pub invariant-loop-rule : goal.invariant-loop-rule
invariant-loop-rule g l = record {
  whole : over_each l.list.items l.proof.tree ≡ over_each l.initial.list.items l.initial.proof.tree;
  right : AreInferences l.list.items l.proof.tree;
  of : IsOf l.graph l.proof;
  extends : Extends l.graph l.initial.pass l.pass;
}

abbrev pub decreases-loop-rule : goal.decreases-loop-rule
decreases-loop-rule g l = vec_len l.list
