-- A node is the first faulty one, or its tree is one more.
use Rattle.exp_tree.proofs.NodeWalk.{first_fault, pushed}
use Rattle.exp_tree.proofs.reading_lists.read_trees.Goals as goal

pub returns-in-Err-clause-err : goal.returns-in-Err-clause-err
returns-in-Err-clause-err c =
    first_fault c.args.nodes.now c.loop-place.place c.loop-place.trees.items _ c.in-Err.fault _ c.loop-place.invariant c.loop-place-test.true c.index-nodes-place.is
    (rw c.deref.ensures.value at c.in-Err.ensures) c.fault_at.ensures

pub loop-place-preserved : goal.loop-place-preserved
loop-place-preserved c =
    pushed c.args.nodes.now c.loop-place.place c.loop-place.trees.items _ _ _ c.loop-place.invariant c.loop-place-test.true c.index-nodes-place.is
    (rw c.deref.ensures.value at c.in-Ok.ensures) c.in_ok-push-in-Ok.ensures
