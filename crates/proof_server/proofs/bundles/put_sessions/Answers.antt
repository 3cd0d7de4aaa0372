use Rattle.std.proofs.Common.{ℕ, subst, arith}
use Rattle.proof_server.proofs.Bundled.{AreWritten, none_written, one_written, all_written, lacking, failing}
use Rattle.proof_server.proofs.bundles.put_sessions.Goals as goal

pub loop-done-init : goal.loop-done-init
loop-done-init g c = (λ parts zip. none_written parts (g.K.Sink.written c.args.sink.now), omega arith)

pub loop-done-preserved : goal.loop-done-preserved
loop-done-preserved g c =
    let so_far = c.loop-done.invariant in (
      λ parts zip. one_written parts c.args.dones.now zip (g.K.Sink.faults c.args.sink.now) (g.K.Sink.faults c.loop-done.sink)
          (g.K.Sink.written c.args.sink.now) (g.K.Sink.written c.loop-done.sink) so_far.1 c.loop-done.done-index c.done-item.result c.loop-done.good
          (g.K.Sink.written c.put_session.new.sink) c.loop-done-test.true c.done-item.is c.if-done-eq5.false (so_far.0 parts zip) c.in-Ok.ensures.puts,
      omega (arith, c.put_session.ensures.kept, so_far.1),
    )

pub returns-then-done-eq5 : goal.returns-then-done-eq5
returns-then-done-eq5 g c =
    let so_far = c.loop-done.invariant in
    record {
      writes = λ parts zip. lacking parts c.args.dones.now zip (g.K.Sink.faults c.args.sink.now) (g.K.Sink.faults c.loop-done.sink)
          (g.K.Sink.written c.args.sink.now) (g.K.Sink.written c.loop-done.sink) so_far.1 c.loop-done.done-index c.loop-done.good (so_far.0 parts zip);
      kept = so_far.1;
    }

pub returns-in-Err : goal.returns-in-Err
returns-in-Err g c =
    let so_far = c.loop-done.invariant in
    let failed = c.in-Err.ensures.puts in
    record {
      writes = λ parts zip. failing parts c.args.dones.now zip (g.K.Sink.faults c.args.sink.now) (g.K.Sink.faults c.loop-done.sink)
          (g.K.Sink.written c.args.sink.now) (g.K.Sink.written c.loop-done.sink) so_far.1 c.loop-done.done-index c.done-item.result c.loop-done.good
          (g.K.Sink.faults c.put_session.new.sink) (g.K.Sink.written c.put_session.new.sink) c.loop-done-test.true c.done-item.is c.if-done-eq5.false
          (so_far.0 parts zip) failed.0 failed.1;
      kept = omega (arith, c.put_session.ensures.kept, so_far.1);
    }

pub returns : goal.returns
returns g c =
    let so_far = c.loop-done.invariant in
    record {
      writes = λ parts zip. all_written parts c.args.dones.now zip (g.K.Sink.faults c.args.sink.now) (g.K.Sink.faults c.loop-done.sink)
          (g.K.Sink.written c.args.sink.now) (g.K.Sink.written c.loop-done.sink) so_far.1 c.loop-done.good
          (subst (λ (i : ℕ). AreWritten parts i c.loop-done.good (g.K.Sink.written c.args.sink.now) (g.K.Sink.written c.loop-done.sink)) (omega arith) (so_far.0 parts zip));
      kept = so_far.1;
    }
