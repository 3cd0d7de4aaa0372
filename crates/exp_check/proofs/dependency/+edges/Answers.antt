-- One more instance.
use Rattle.exp_check.proofs.EdgeWalk.{next_instance, fewer_after}
use Rattle.exp_check.proofs.dependency.+edges.Goals as goal

pub push_edges_in-loop-instance-preserved : goal.push_edges_in-loop-instance-preserved
push_edges_in-loop-instance-preserved t c = (
  λ y z. next_instance y z _ c.args.instances.now c.loop-instance.instance-index c.instance-item.result _ _ _ _ c.loop-instance-test.true c.instance-item.is
      (c.loop-instance.invariant.0 y z) (c.in_ok-inner.ensures y) (c.in_ok-push_edges.ensures y z),
  fewer_after c.args.instances.now c.loop-instance.instance-index c.instance-item.result _ c.loop-instance-test.true c.loop-instance.invariant.1,
)
